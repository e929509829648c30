-- Texts that stand at the start of bytes, with others behind them.
use Rattle.std.proofs.Common.{◌≡◌, ◌∙◌, ◌≤◌, ◌<◌, ◌+◌, ◌-◌, ◌∷◌, ℕ, List, length, take, drop, Result, Ok, Err, arith, ap, sym, subst}
use Rattle.std.specs.Prelude.{◌==◌}
use Rattle.std.specs.List.{slice_split}
use Rattle.std.specs.Result.{IsErrAnd}
use Rattle.std.proofs.lemmas.Grind.{common_steps}
use Rattle.std.proofs.lemmas.List.{drop-take, length-take-le, take-take, take_rest}
use Rattle.osm_entity.specs.declared.verdict.Cause.{Cause}
use Rattle.osm_text.proofs.SplitLemmas.{split-joined}
use Rattle.osm_opl_line.specs.declared.contents.ContentError.{ContentError}
use Rattle.osm_opl_line.specs.declared.contents.ContentError.TheVariants.{Bad}

-- a part before a comma stands at the start
pub take-part : (rest part more : List ℕ) →
    slice_split (λ b. b == 44) rest ≡ part ∷ slice_split (λ b. b == 44) more → take (length part) rest ≡ part
take-part rest part more is = rw (split-joined 44 rest part more is) (grind (arith, common_steps))

-- the key of a tag stands at the start
pub take-key : (bytes key value : List ℕ) (len : ℕ) → len ≤ length bytes →
    length key + length value < length (take len bytes) → take (length key) (take len bytes) ≡ key →
    take (length key) bytes ≡ key
take-key bytes key value len within shorter is =
    sym (take-take (length key) len bytes (omega (arith, shorter, length-take-le len bytes within))) ∙ is

-- a value ends where its tag ends
value-ends : (bytes value : List ℕ) (from len : ℕ) → len ≤ length bytes → from ≤ len →
    drop from (take len bytes) ≡ value → from + length value ≡ len
value-ends bytes value from len within begins is =
    let rest : length (drop from (take len bytes)) ≡ len - from = grind (arith, common_steps) in
    omega (arith, ap length is, rest)

-- the value of a tag stands behind its key
pub take-value : (bytes key value : List ℕ) (len : ℕ) → len ≤ length bytes →
    length key + length value < length (take len bytes) → drop (length key + 1) (take len bytes) ≡ value →
    take (length value) (take (length bytes - (length key + 1)) (drop (length key + 1) bytes)) ≡ value
take-value bytes key value len within shorter is =
    let begins : length key + 1 ≤ len = omega (arith, shorter, length-take-le len bytes within) in
    let ends = value-ends bytes value (length key + 1) len within begins is in
    rw take_rest
    (sym (drop-take (length key + 1) (length value) bytes)
    ∙ subst (λ n. drop (length key + 1) (take n bytes) ≡ value) (sym ends) is)

-- an error that is handed on has its cause
pub bad-handed_on : {T : Type 0} (result : Result T ContentError) (error : ContentError) (cause : Cause) →
    IsErrAnd result (λ e. e ≡ error) → result ≡ Err (Bad cause) → error ≡ Bad cause
bad-handed_on (Ok value) error cause handed is = absurd handed
bad-handed_on (Err other) error cause handed is = let same : other ≡ error = handed in cc
