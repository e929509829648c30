-- What lists weigh, part by part.
use Rattle.std.proofs.Common.{◌≡◌, ◌+◌, ◌*◌, ◌∷◌, [], ℕ, ℤ, false, List, length, Result, Ok, Err, refl, ap, sym, arith, ◌∙◌}
use Rattle.std.specs.Prelude.{◌==◌}
use Rattle.std.specs.List.{slice_split, sum_by}
use Rattle.std.specs.Result.{IsErrAnd}
use Rattle.std.proofs.lemmas.List.{length-append}
use Rattle.std.proofs.lemmas.List.Sums.{sum_by-cons}
use Rattle.osm_entity.specs.declared.verdict.Cause.{Cause}
use Rattle.osm_opl_line.specs.Contents.{all_in, before_all, parts_of}
use Rattle.osm_opl_line.specs.Cut.{weighed}
use Rattle.osm_text.proofs.SplitLemmas.{split-joined}

-- a weight before that of what follows, where nothing is bad
abbrev pub after_weight : ℕ → Result ℕ Cause → Result ℕ Cause
after_weight total (Ok more) = Ok (total + more)
after_weight total (Err cause) = Err cause

-- what parts weigh together, or the cause of the first bad one
abbrev pub all_weighed : {T : Type 0} → (T → ℕ) → (List ℕ → Result T Cause) → List (List ℕ) → Result ℕ Cause
all_weighed weight says parts = weighed (sum_by weight) (all_in says parts)

-- nothing was weighed yet
after_weight-zero : (rest : Result ℕ Cause) → after_weight 0 rest ≡ rest
after_weight-zero (Ok more) = ap Ok (omega arith)
after_weight-zero (Err cause) = refl

-- a bad part comes first
weighed-before_bad : {T : Type 0} (weight : T → ℕ) (first : Result T Cause) (cause : Cause)
    (more : Result (List T) Cause) → weighed weight first ≡ Err cause →
    weighed (sum_by weight) (before_all first more) ≡ Err cause
weighed-before_bad weight (Ok value) cause more is = cc
weighed-before_bad weight (Err other) cause more is = is

-- a part of this weight comes first
weighed-before_good : {T : Type 0} (weight : T → ℕ) (first : Result T Cause) (n : ℕ) (more : Result (List T) Cause) →
    weighed weight first ≡ Ok n →
    weighed (sum_by weight) (before_all first more) ≡ after_weight n (weighed (sum_by weight) more)
weighed-before_good weight (Err cause) n more is = cc
weighed-before_good weight (Ok value) n (Err cause) is = refl
weighed-before_good weight (Ok value) n (Ok values) is =
    let same : weight value ≡ n = cc in ap Ok (rw (← same) (sum_by-cons weight value values))

-- two weights before what follows
after_weight-twice : (total n : ℕ) (more : Result ℕ Cause) →
    after_weight total (after_weight n more) ≡ after_weight (total + n) more
after_weight-twice total n (Ok more) = ap Ok (omega arith)
after_weight-twice total n (Err cause) = refl

-- a part, its comma and the rest have the length of the bytes
pub length-split : (bytes head rest : List ℕ) →
    slice_split (λ b. b == 44) bytes ≡ head ∷ slice_split (λ b. b == 44) rest →
    length head + 1 + length rest ≡ length bytes
length-split bytes head rest is =
    rw (split-joined 44 bytes head rest is, length-append) (omega arith)

-- one part more was weighed
pub weighed-step : {T : Type 0} (weight : T → ℕ) (says : List ℕ → Result T Cause) (sum : Result ℕ Cause)
    (rest part more : List ℕ) (total n : ℕ) →
    slice_split (λ b. b == 44) rest ≡ part ∷ slice_split (λ b. b == 44) more → Ok n ≡ weighed weight (says part) →
    sum ≡ after_weight total (all_weighed weight says (slice_split (λ b. b == 44) rest)) →
    sum ≡ after_weight (total + n) (all_weighed weight says (slice_split (λ b. b == 44) more))
weighed-step weight says sum rest part more total n split is so_far =
    let later = all_in says (slice_split (λ b. b == 44) more) in
    let good = weighed-before_good weight (says part) n later (sym is) in
    let next = rw (split, good) at so_far in
    next ∙ after_weight-twice total n (weighed (sum_by weight) later)

-- a bad part was found
pub weighed-bad : {T : Type 0} (weight : T → ℕ) (says : List ℕ → Result T Cause) (sum : Result ℕ Cause)
    (rest part : List ℕ) (parts : List (List ℕ)) (total : ℕ) (cause : Cause) →
    slice_split (λ b. b == 44) rest ≡ part ∷ parts → Err cause ≡ weighed weight (says part) →
    sum ≡ after_weight total (all_weighed weight says (slice_split (λ b. b == 44) rest)) → Err cause ≡ sum
weighed-bad weight says sum rest part parts total cause split is so_far =
    let bad = weighed-before_bad weight (says part) cause (all_in says parts) (sym is) in
    sym (rw (split, bad) at so_far)

-- the last part was weighed
pub weighed-end : {T : Type 0} (weight : T → ℕ) (says : List ℕ → Result T Cause) (sum : Result ℕ Cause)
    (rest : List ℕ) (total n : ℕ) →
    slice_split (λ b. b == 44) rest ≡ rest ∷ [] → Ok n ≡ weighed weight (says rest) →
    sum ≡ after_weight total (all_weighed weight says (slice_split (λ b. b == 44) rest)) → Ok (total + n) ≡ sum
weighed-end weight says sum rest total n split is so_far =
    let good = weighed-before_good weight (says rest) n (Ok []) (sym is) in
    let next = rw (split, good) at so_far in
    sym (next ∙ ap Ok (omega arith))

-- a content that isn't empty weighs what the parts between its commas weigh
pub weighed-start : {T : Type 0} (weight : T → ℕ) (says : List ℕ → Result T Cause) (content : List ℕ) →
    false ≡ (length content == 0) →
    weighed (sum_by weight) (all_in says (parts_of content))
    ≡ after_weight 0 (all_weighed weight says (slice_split (λ b. b == 44) content))
weighed-start weight says [] some = cc
weighed-start weight says (byte ∷ content) some =
    sym (after_weight-zero (all_weighed weight says (slice_split (λ b. b == 44) (byte ∷ content))))

-- a cause that is handed on
pub cause-handed_on : (result sum : Result ℕ Cause) (cause : Cause) → IsErrAnd result (λ e. e ≡ cause) →
    Err cause ≡ sum → result ≡ sum
cause-handed_on (Ok n) sum cause handed is = absurd handed
cause-handed_on (Err other) sum cause handed is = ap Err handed ∙ is

-- refs weigh 32 each
sum_by-refs : (refs : List ℤ) → 32 * length refs ≡ sum_by (λ _. 32) refs
sum_by-refs [] = refl
sum_by-refs (ref ∷ refs) = rw sum_by-cons (omega (arith, sum_by-refs refs))

-- what refs weigh, part by part
pub weighed-refs : (said : Result (List ℤ) Cause) →
    weighed (λ refs. 32 * length refs) said ≡ weighed (sum_by (λ _. 32)) said
weighed-refs (Ok refs) = ap Ok (sum_by-refs refs)
weighed-refs (Err cause) = refl
