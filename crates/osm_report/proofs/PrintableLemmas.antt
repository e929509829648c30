-- Printable bytes: those of a number, and of a line before its newline.
use Rattle.std.proofs.Common.{◌≡◌, ℕ, ◌^◌, ◌<◌, List, [], ◌∷◌, ◌++◌, Bool, true, refl, arith}
use Rattle.std.specs.Prelude.{◌&&◌, decimal}
use Rattle.std.specs.Char.{digit_value}
use Rattle.std.specs.List.{list_all}
use Rattle.std.specs.Str.Parse.{AllDigits, digits_value}
use Rattle.std.proofs.lemmas.Bool.{and_parts}
use Rattle.std.proofs.lemmas.Bool.Decides.{nat_tests}
use Rattle.std.proofs.lemmas.Fmt.{digits_decimal}
use Rattle.std.proofs.lemmas.Str.Parse.{IsNumeralModel}
use Rattle.osm_entity.specs.Ascii.{newline}
use Rattle.osm_report.specs.Printable.{is_one_line, is_printable}

-- a digit is printable
digit-printable : (c : ℕ) → digit_value c < 10 → is_printable c ≡ true
digit-printable c small = grind (arith, nat_tests)

-- both of two tests
both : (p q : Bool) → p ≡ true → q ≡ true → (p && q) ≡ true
both p q first second = cc

-- digits are printable
digits-printable : (ds : List ℕ) → AllDigits 10 ds → list_all is_printable ds ≡ true
digits-printable [] each = refl
digits-printable (c ∷ cs) each =
    both (is_printable c) (list_all is_printable cs) (digit-printable c each.0) (digits-printable cs each.1)

-- the digits of a number are printable
pub decimal-printable : (n : ℕ) → n < 2 ^ 64 → list_all is_printable (decimal n) ≡ true
decimal-printable n fits =
    let own : IsNumeralModel (AllDigits 10) (digits_value 10) =
    record { to = λ ds digits. digits; from = λ ds digits. digits; same = λ ds digits. refl } in
    digits-printable (decimal n) (digits_decimal own n fits)

-- printable bytes and a newline are one line
pub one_line-ended : (bytes : List ℕ) → list_all is_printable bytes ≡ true →
    is_one_line (bytes ++ newline ∷ []) ≡ true
one_line-ended [] printable = refl
one_line-ended (b ∷ []) printable = both (is_printable b) true (and_parts (is_printable b) true printable).0 refl
one_line-ended (b ∷ c ∷ more) printable =
    let parts = and_parts (is_printable b) (list_all is_printable (c ∷ more)) printable in
    both (is_printable b) (is_one_line (c ∷ more ++ newline ∷ [])) parts.0 (one_line-ended (c ∷ more) parts.1)
