-- How many bytes an unescaped text has.
use Rattle.std.proofs.Common.{◌≡◌, ◌<◌, ◌≤◌, ◌+◌, ◌∷◌, [], ℕ, true, List, length, Option, None, Some, refl, arith, ap, sym, ◌∙◌, length-append}
use Rattle.std.specs.Prelude.{◌==◌, ◌&&◌}
use Rattle.std.specs.Char.{is_digit, digit_value, encode_utf8, len_utf8}
use Rattle.std.specs.Fmt.{◌++?◌}
use Rattle.std.specs.List.{slice_split}
use Rattle.std.specs.Option.{option_map}
use Rattle.std.specs.Str.Parse.{digits_value}
use Rattle.std.proofs.lemmas.Bool.{and_parts}
use Rattle.std.proofs.lemmas.Bool.Decides.{nat_tests}
use Rattle.std.proofs.lemmas.Str.{length-encode, len_utf8_bounds, len_utf8_ascii}
use Rattle.osm_text.specs.Escapes.{are_hex, escape_code, is_char, unescaped}
use Rattle.osm_text.proofs.KeptLemmas.{kept_some}
use Rattle.osm_text.proofs.SplitLemmas.{split-joined}
use Rattle.osm_text.proofs.UnescapeLemmas.{unescaped-plain}

-- how many bytes an unescaped text has
abbrev pub text_length : List ℕ → Option ℕ
text_length text = option_map length (unescaped text)

-- a length with more bytes before
abbrev pub longer : ℕ → Option ℕ → Option ℕ
longer n None = None
longer n (Some k) = Some (n + k)

-- a text before another adds its bytes
length-joined : (a : List ℕ) (t : Option (List ℕ)) →
    option_map length (Some a ++? t) ≡ longer (length a) (option_map length t)
length-joined a None = refl
length-joined a (Some text) = ap Some (length-append a text)

-- bytes before bytes
longer-longer : (a b : ℕ) (t : Option ℕ) → longer a (longer b t) ≡ longer (a + b) t
longer-longer a b None = refl
longer-longer a b (Some k) = ap Some (omega arith)

-- the parts around a first part, in bytes
pub length-parts : (text head rest : List ℕ) →
    slice_split (λ b. b == 37) text ≡ head ∷ slice_split (λ b. b == 37) rest →
    length text ≡ length head + 1 + length rest
length-parts text head rest is =
    rw (split-joined 37 text head rest is, length-append) (omega arith)

-- a hexadecimal digit is that of an ASCII character
digit-width : (d n : ℕ) → is_digit d 16 ≡ true → n ≡ digit_value d → len_utf8 n ≡ 1
digit-width d n digit is = let small : n < 128 = grind (arith, nat_tests) in len_utf8_ascii n small

-- a character takes no more bytes than its escape, but for one of its two %
pub width-code : (code : List ℕ) (n : ℕ) → Some n ≡ escape_code code → len_utf8 n ≤ length code + 2
width-code [] n is = cc
width-code (d ∷ []) n is =
    let kept = kept_some (are_hex (d ∷ []) && is_char (digits_value 16 (d ∷ []))) (digits_value 16 (d ∷ [])) n is in
    let hex = (and_parts (are_hex (d ∷ [])) (is_char (digits_value 16 (d ∷ []))) kept.1).0 in
    omega (arith, digit-width d n (and_parts (is_digit d 16) true hex).0 (omega (arith, kept.0)))
width-code (d ∷ e ∷ code) n is = omega (arith, (len_utf8_bounds n).1)

-- one escape more
pub text_length-step : (bytes rest plain after more : List ℕ) (total c width : ℕ) →
    text_length bytes ≡ longer total (text_length rest) →
    slice_split (λ b. b == 37) rest ≡ plain ∷ slice_split (λ b. b == 37) after →
    unescaped (37 ∷ after) ≡ Some (encode_utf8 c) ++? unescaped more → width ≡ len_utf8 c →
    text_length bytes ≡ longer (total + (length plain + width)) (text_length more)
text_length-step bytes rest plain after more total c width so_far split is wide =
    let head : text_length rest ≡ longer (length plain) (text_length (37 ∷ after)) =
    ap (option_map length) (unescaped-plain rest plain after split) ∙ length-joined plain (unescaped (37 ∷ after)) in
    let next : text_length (37 ∷ after) ≡ longer width (text_length more) =
    ap (option_map length) is ∙ length-joined (encode_utf8 c) (unescaped more) ∙
    ap (λ n. longer n (text_length more)) (length-encode c ∙ sym wide) in
    so_far ∙ ap (longer total) (head ∙ ap (longer (length plain)) next) ∙
    longer-longer total (length plain) (longer width (text_length more)) ∙
    longer-longer (total + length plain) width (text_length more) ∙
    ap (λ n. longer n (text_length more)) (omega arith)
