-- The bytes of written numbers, times and escaped texts: none parts a line, and all are UTF-8.
use Rattle.std.proofs.Common.{◌≡◌, inl, inr, suc, ℕ, ℤ, pos, negsuc, ◌+◌, ◌-◌, ◌/◌, ◌%◌, ◌^◌, ◌<◌, ◌≤◌, List, [], ◌∷◌, ◌++◌, length, drop, replicate, Some, true, nat_abs, arith, refl}
use Rattle.std.specs.Prelude.{◌==◌, All, decimal, int_lt, codes, if◌then◌else◌, slice_index}
use Rattle.std.specs.Char.{digit_value, is_digit}
use Rattle.std.specs.Fmt.{signed_decimal}
use Rattle.std.specs.List.{AllByRecursion, list_all}
use Rattle.std.specs.Str.{IsUtf8, IsAscii}
use Rattle.std.specs.Str.Parse.{AllDigits, digits_value}
use Rattle.std.proofs.lemmas.Bool.{cond_both, cases_lt, cases_Bool, and_parts}
use Rattle.std.proofs.lemmas.Bool.Decides.{nat_tests}
use Rattle.std.proofs.lemmas.Fmt.{digits_decimal}
use Rattle.std.proofs.lemmas.List.{get_or_past}
use Rattle.std.proofs.lemmas.List.Elements.{All-nil, All-cons, All-append, All-take, All-replicate, All-from_recursion}
use Rattle.std.proofs.lemmas.Option.{none-some}
use Rattle.std.proofs.lemmas.Str.{IsUtf8-from_ascii}
use Rattle.std.proofs.lemmas.Str.Parse.{IsNumeralModel}
use Rattle.osm_text.specs.Numbers.{nano_text, fraction_text, nine_digits, trimmed}
use Rattle.osm_text.specs.Times.{has_form, time, time_text, are_two_digits, date_places, clock_places}

-- a byte of a number's text: a minus, a point, or a digit
abbrev pub IsNumeric : ℕ → Type 0
IsNumeric b = (45 ≤ b) × (b ≤ 57)

-- a byte of a time's text: a byte of a number's text, a colon, a T or a Z
abbrev pub IsOfTime : ℕ → Type 0
IsOfTime b = (45 ≤ b) × (b ≤ 90)

-- bytes below 128 are ASCII, and UTF-8
pub utf8-low : (bytes : List ℕ) → All (λ b. b < 128) bytes → IsUtf8 bytes
utf8-low bytes low =
    let ascii : IsAscii bytes = λ i. elim (cases_lt i (length bytes)) [
      | inl within ↦ low i 0 within
      | inr past ↦ omega (arith, get_or_past bytes i 0 past)
    ] in
    IsUtf8-from_ascii bytes ascii

-- a digit is a byte of a number's text
digit-numeric : (c : ℕ) → digit_value c < 10 → IsNumeric c
digit-numeric c small = (grind (arith, nat_tests), grind (arith, nat_tests))

-- digits are bytes of a number's text
digits-numeric : (ds : List ℕ) → AllDigits 10 ds → All IsNumeric ds
digits-numeric [] each = All-nil IsNumeric
digits-numeric (c ∷ cs) each = All-cons IsNumeric c cs (digit-numeric c each.0) (digits-numeric cs each.1)

-- the text of a number without a sign
pub decimal-numeric : (n : ℕ) → n < 2 ^ 64 → All IsNumeric (decimal n)
decimal-numeric n fits =
    let own : IsNumeralModel (AllDigits 10) (digits_value 10) =
    record { to = λ ds digits. digits; from = λ ds digits. digits; same = λ ds digits. refl } in
    digits-numeric (decimal n) (digits_decimal own n fits)

-- the text of a number with a sign
pub signed_decimal-numeric : (z : ℤ) → nat_abs z < 2 ^ 64 → All IsNumeric (signed_decimal z)
signed_decimal-numeric (pos n) fits = decimal-numeric n fits
signed_decimal-numeric (negsuc n) fits =
    All-cons IsNumeric 45 (decimal (suc n)) (omega arith, omega arith) (decimal-numeric (suc n) fits)

-- the decimals of degrees, with their point
fraction_text-numeric : (n : ℕ) → n < 2 ^ 64 → All IsNumeric (fraction_text n)
fraction_text-numeric n fits =
    cond_both (n == 0) [] (46 ∷ trimmed (nine_digits n)) (All IsNumeric) (λ _. All-nil IsNumeric)
    (λ _. All-cons IsNumeric 46 (trimmed (nine_digits n)) (omega arith, omega arith)
    (All-take IsNumeric _ (nine_digits n)
    (All-append IsNumeric (replicate (9 - length (decimal n)) 48) (decimal n)
    (All-replicate IsNumeric (9 - length (decimal n)) 48 (omega arith, omega arith)) (decimal-numeric n fits))))

-- the text of degrees
pub nano_text-numeric : (z : ℤ) → nat_abs z < 2 ^ 64 → All IsNumeric (nano_text z)
nano_text-numeric z fits =
    All-append IsNumeric ((if int_lt z (pos 0) then codes "-" else []) ++ decimal (nat_abs z / 10 ^ 9))
    (fraction_text (nat_abs z % 10 ^ 9))
    (All-append IsNumeric (if int_lt z (pos 0) then codes "-" else []) (decimal (nat_abs z / 10 ^ 9))
    (cond_both (int_lt z (pos 0)) (codes "-") [] (All IsNumeric)
    (λ _. All-cons IsNumeric 45 [] (omega arith, omega arith) (All-nil IsNumeric))
    (λ _. All-nil IsNumeric)) (decimal-numeric (nat_abs z / 10 ^ 9) (omega arith)))
    (fraction_text-numeric (nat_abs z % 10 ^ 9) (omega arith))

-- what reads as a time has the form of one
has_form-from_time : (bytes : List ℕ) (t : ℕ) → time bytes ≡ Some t → has_form bytes ≡ true
unfolding time
has_form-from_time bytes t read =
    elim (cases_Bool (has_form bytes)) [
      | inl has ↦ has
      | inr lacks ↦ absurd (none-some t (rw lacks at read))
    ]

-- two digits at the first of these places are bytes of a time's text
two_digits-of_time : (bytes : List ℕ) (place : ℕ) (places : List ℕ) →
    list_all (are_two_digits bytes) (place ∷ places) ≡ true →
    IsOfTime (slice_index bytes place) × IsOfTime (slice_index bytes (place + 1))
    × (list_all (are_two_digits bytes) places ≡ true)
two_digits-of_time bytes place places each =
    let parts = and_parts (are_two_digits bytes place) (list_all (are_two_digits bytes) places) each in
    let digit : (c : ℕ) → is_digit c 10 ≡ true → IsOfTime c =
    λ c is. (grind (arith, nat_tests, is), grind (arith, nat_tests, is)) in
    let first : ℕ = slice_index bytes place in
    let second : ℕ = slice_index bytes (place + 1) in
    let both = and_parts (is_digit first 10) (is_digit second 10) parts.0 in
    (digit first both.0, digit second both.1, parts.1)

-- the bytes of a text of a time's form that writes its marks
marked-of_time : (y₁ y₂ y₃ y₄ m₁ m₂ d₁ d₂ h₁ h₂ n₁ n₂ s₁ s₂ : ℕ) →
    has_form ((y₁ ∷ y₂ ∷ y₃ ∷ y₄ ∷ 45 ∷ m₁ ∷ m₂ ∷ 45 ∷ d₁ ∷ d₂ ∷ []) ++
    84 ∷ (h₁ ∷ h₂ ∷ 58 ∷ n₁ ∷ n₂ ∷ 58 ∷ s₁ ∷ s₂ ∷ []) ++ 90 ∷ []) ≡ true →
    All IsOfTime ((y₁ ∷ y₂ ∷ y₃ ∷ y₄ ∷ 45 ∷ m₁ ∷ m₂ ∷ 45 ∷ d₁ ∷ d₂ ∷ []) ++
    84 ∷ (h₁ ∷ h₂ ∷ 58 ∷ n₁ ∷ n₂ ∷ 58 ∷ s₁ ∷ s₂ ∷ []) ++ 90 ∷ [])
marked-of_time y₁ y₂ y₃ y₄ m₁ m₂ d₁ d₂ h₁ h₂ n₁ n₂ s₁ s₂ form =
    let bytes : List ℕ = (y₁ ∷ y₂ ∷ y₃ ∷ y₄ ∷ 45 ∷ m₁ ∷ m₂ ∷ 45 ∷ d₁ ∷ d₂ ∷ []) ++
    84 ∷ (h₁ ∷ h₂ ∷ 58 ∷ n₁ ∷ n₂ ∷ 58 ∷ s₁ ∷ s₂ ∷ []) ++ 90 ∷ [] in
    let parts = and_parts (list_all (are_two_digits bytes) date_places) (list_all (are_two_digits bytes) clock_places)
    form in
    let century = two_digits-of_time bytes 0 (2 ∷ 5 ∷ 8 ∷ []) parts.0 in
    let year = two_digits-of_time bytes 2 (5 ∷ 8 ∷ []) century.2 in
    let month = two_digits-of_time bytes 5 (8 ∷ []) year.2 in
    let day = two_digits-of_time bytes 8 [] month.2 in
    let hour = two_digits-of_time bytes 11 (14 ∷ 17 ∷ []) parts.1 in
    let minute = two_digits-of_time bytes 14 (17 ∷ []) hour.2 in
    let second = two_digits-of_time bytes 17 [] minute.2 in
    let hyphen : IsOfTime 45 = (omega arith, omega arith) in
    let colon : IsOfTime 58 = (omega arith, omega arith) in
    let big_t : IsOfTime 84 = (omega arith, omega arith) in
    let big_z : IsOfTime 90 = (omega arith, omega arith) in
    let from_second : AllByRecursion IsOfTime (drop 16 bytes) = (colon, (second.0, (second.1, (big_z, tt)))) in
    let from_minute : AllByRecursion IsOfTime (drop 13 bytes) = (colon, (minute.0, (minute.1, from_second))) in
    let from_hour : AllByRecursion IsOfTime (drop 10 bytes) = (big_t, (hour.0, (hour.1, from_minute))) in
    let from_day : AllByRecursion IsOfTime (drop 7 bytes) = (hyphen, (day.0, (day.1, from_hour))) in
    let from_month : AllByRecursion IsOfTime (drop 4 bytes) = (hyphen, (month.0, (month.1, from_day))) in
    All-from_recursion IsOfTime bytes (century.0, (century.1, (year.0, (year.1, from_month))))

-- the text of a time that reads back
pub time_text-of_time : (t : ℕ) → time (time_text t) ≡ Some t → All IsOfTime (time_text t)
unfolding time_text
time_text-of_time t read =
    marked-of_time _ _ _ _ _ _ _ _ _ _ _ _ _ _ (has_form-from_time (time_text t) t read)
