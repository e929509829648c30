-- A written time, read again.
use Rattle.std.proofs.Common.{◌≡◌, ◌<◌, ◌+◌, ◌-◌, ◌*◌, ◌/◌, ◌%◌, ◌^◌, ◌∷◌, ◌++◌, [], ℕ, Some, true, refl, arith}
use Rattle.std.specs.Prelude.{◌&&◌}
use Rattle.std.specs.Char.{is_digit}
use Rattle.std.specs.Str.Parse.{digits_value}
use Rattle.std.proofs.lemmas.Bool.{lt-ltb}
use Rattle.std.proofs.lemmas.Bool.Decides.{nat_tests}
use Rattle.osm_text.specs.Times.{clock_seconds, clock_text, date_after, date_text, existing_clock, existing_day, fitting_time, has_form, time, time_at, time_text, two_text}
use Rattle.osm_text.proofs.CalendarLemmas.{days_of_years-ge, month_length-le}
use Rattle.osm_text.proofs.DateLemmas.{IsNumbered, date_after-numbered, exists-numbered}

-- a number below ten as a digit
digit : (x : ℕ) → x < 10 → is_digit (48 + x) 10 ≡ true
digit x low = grind (arith, nat_tests)

-- two digits are digits
pair-digits : (n : ℕ) → n < 100 → (is_digit (48 + n / 10) 10 && is_digit (48 + n % 10) 10) ≡ true
pair-digits n low = rw (digit (n / 10) (omega arith), digit (n % 10) (omega arith)) refl

-- two digits write the number
pair-value : (n : ℕ) → n < 100 → digits_value 10 (two_text n) ≡ n
pair-value n low = grind (arith, nat_tests)

-- four digits write the number
four-value : (n : ℕ) → n < 10000 → digits_value 10 (two_text (n / 100) ++ two_text (n % 100)) ≡ n
four-value n low = grind (arith, nat_tests)

-- a text of digits and marks has the form
form-of : (y₁ y₂ y₃ y₄ m₁ m₂ d₁ d₂ h₁ h₂ n₁ n₂ s₁ s₂ : ℕ) →
    (is_digit y₁ 10 && is_digit y₂ 10) ≡ true → (is_digit y₃ 10 && is_digit y₄ 10) ≡ true →
    (is_digit m₁ 10 && is_digit m₂ 10) ≡ true → (is_digit d₁ 10 && is_digit d₂ 10) ≡ true →
    (is_digit h₁ 10 && is_digit h₂ 10) ≡ true → (is_digit n₁ 10 && is_digit n₂ 10) ≡ true →
    (is_digit s₁ 10 && is_digit s₂ 10) ≡ true →
    has_form ((y₁ ∷ y₂ ∷ y₃ ∷ y₄ ∷ 45 ∷ m₁ ∷ m₂ ∷ 45 ∷ d₁ ∷ d₂ ∷ []) ++
    84 ∷ (h₁ ∷ h₂ ∷ 58 ∷ n₁ ∷ n₂ ∷ 58 ∷ s₁ ∷ s₂ ∷ []) ++ 90 ∷ []) ≡ true
form-of y₁ y₂ y₃ y₄ m₁ m₂ d₁ d₂ h₁ h₂ n₁ n₂ s₁ s₂ a b c d e f g = rw (a, b, c, d, e, f, g) refl

-- a date and a time of the day, written and read again
text-reads : (year month day hour minute second : ℕ) → year < 10000 → month < 100 → day < 100 →
    hour < 100 → minute < 100 → second < 100 →
    time (date_text year month day ++ 84 ∷ clock_text hour minute second ++ 90 ∷ []) ≡
    time_at (existing_day year month day) (existing_clock hour minute second)
unfolding time
text-reads year month day hour minute second a b c d e f =
    let form = form-of (48 + year / 100 / 10) (48 + year / 100 % 10) (48 + year % 100 / 10) (48 + year % 100 % 10)
    (48 + month / 10) (48 + month % 10) (48 + day / 10) (48 + day % 10) (48 + hour / 10) (48 + hour % 10)
    (48 + minute / 10) (48 + minute % 10) (48 + second / 10) (48 + second % 10)
    (pair-digits (year / 100) (omega arith)) (pair-digits (year % 100) (omega arith)) (pair-digits month b)
    (pair-digits day c) (pair-digits hour d) (pair-digits minute e) (pair-digits second f) in
    rw (
      form,
      four-value year a,
      pair-value month b,
      pair-value day c,
      pair-value hour d,
      pair-value minute e,
      pair-value second f,
    ) refl

-- the time of the day a number of seconds after midnight
clock-reads : (seconds : ℕ) → seconds < 86400 →
    existing_clock (seconds / 3600) (seconds / 60 % 60) (seconds % 60) ≡ Some seconds
clock-reads seconds low =
    let whole : clock_seconds (seconds / 3600) (seconds / 60 % 60) (seconds % 60) ≡ seconds = omega arith in
    rw (
      lt-ltb (seconds / 3600) 24 (omega arith),
      lt-ltb (seconds / 60 % 60) 60 (omega arith),
      lt-ltb (seconds % 60) 60 (omega arith),
      whole,
    ) refl

-- the date a number of days after 1970-01-01
date-reads : (year month day n : ℕ) → IsNumbered year month day n → existing_day year month day ≡ Some n
date-reads year month day n is = rw (exists-numbered year month day n is, is.value) refl

-- seconds below 2^32 fit
fits : (t : ℕ) → t < 2 ^ 32 → fitting_time (t / 86400 * 86400 + t % 86400) ≡ Some t
fits t low =
    let whole : t / 86400 * 86400 + t % 86400 ≡ t = omega arith in
    rw (whole, lt-ltb t (2 ^ 32) low) refl

-- a year that is not past a day lies below 10,000
low-year : (year month day n : ℕ) → IsNumbered year month day n → n < 50000 → (year < 10000) × (day < 100)
low-year year month day n is low =
    let days = month_length-le year month in
    let years = days_of_years-ge (year - 1970) in
    (omega (arith, is.value), omega (arith, is.within))

-- the text of a time reads back
pub time-time_text : (t : ℕ) → t < 2 ^ 32 → time (time_text t) ≡ Some t
unfolding time_text
time-time_text t low =
    let is : IsNumbered (date_after (t / 86400)).year (date_after (t / 86400)).month (date_after (t / 86400)).day
    (t / 86400) = date_after-numbered (t / 86400) in
    let small = low-year (date_after (t / 86400)).year (date_after (t / 86400)).month (date_after (t / 86400)).day
    (t / 86400) is (omega arith) in
    rw (
      text-reads (date_after (t / 86400)).year (date_after (t / 86400)).month (date_after (t / 86400)).day
          (t % 86400 / 3600) (t % 86400 / 60 % 60) (t % 86400 % 60) small.0 (omega (arith, is.last)) small.1
          (omega arith) (omega arith) (omega arith),
      date-reads (date_after (t / 86400)).year (date_after (t / 86400)).month (date_after (t / 86400)).day
          (t / 86400) is,
      clock-reads (t % 86400) (omega arith),
    )
    (fits t low)
