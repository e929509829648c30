-- Which date a day number has.
use Rattle.std.proofs.Common.{◌≡◌, ◌<◌, ◌≤◌, ◌+◌, ◌-◌, ◌⊎◌, inl, inr, ℕ, zero, suc, true, refl, arith}
use Rattle.std.specs.Prelude.{◌&&◌, nat_le, nat_lt}
use Rattle.std.proofs.lemmas.Bool.{and_parts, leb-true, ltb-true, lt-ltb, le-ltb}
use Rattle.std.proofs.lemmas.Bool.Decides.{nat_tests}
use Rattle.osm_text.specs.Times.{is_date, year_length, month_length, days_of_years, days_of_months, day_number, DateValue, next_date, date_after}
use Rattle.osm_text.proofs.CalendarLemmas.{month_length-ge, days_of_months-before, days_of_months-later, days_of_months-year, days_of_years-later, days_of_years-more}

-- a date that exists and has this day number
pub record IsNumbered (year month day number : ℕ) : Type 0 where
  pub from : 1970 ≤ year
  pub first : 0 < month
  pub last : month ≤ 12
  pub begun : 0 < day
  pub within : day ≤ month_length year month
  pub value : day_number year month day ≡ number

-- five tests that pass
five : (year month day most : ℕ) → 1970 ≤ year → 0 < month → month ≤ 12 → 0 < day → day ≤ most →
    (nat_le 1970 year && nat_lt 0 month && nat_le month 12 && nat_lt 0 day && nat_le day most) ≡ true
five year month day most a b c d e = grind (arith, nat_tests)

-- such a date exists
pub exists-numbered : (year month day number : ℕ) → IsNumbered year month day number → is_date year month day ≡ true
exists-numbered year month day number is =
    five year month day (month_length year month) is.from is.first is.last is.begun is.within

-- five tests that passed
five-parts : (year month day most : ℕ) →
    (nat_le 1970 year && nat_lt 0 month && nat_le month 12 && nat_lt 0 day && nat_le day most) ≡ true →
    (1970 ≤ year) × (0 < month) × (month ≤ 12) × (0 < day) × (day ≤ most)
five-parts year month day most all =
    let e = and_parts (nat_le 1970 year && nat_lt 0 month && nat_le month 12 && nat_lt 0 day) (nat_le day most) all in
    let d = and_parts (nat_le 1970 year && nat_lt 0 month && nat_le month 12) (nat_lt 0 day) e.0 in
    let c = and_parts (nat_le 1970 year && nat_lt 0 month) (nat_le month 12) d.0 in
    let b = and_parts (nat_le 1970 year) (nat_lt 0 month) c.0 in (
      leb-true 1970 year b.0,
      ltb-true 0 month b.1,
      leb-true month 12 c.1,
      ltb-true 0 day d.1,
      leb-true day most e.1,
    )

-- a date that exists has a number
pub numbered-date : (year month day : ℕ) → is_date year month day ≡ true →
    IsNumbered year month day (day_number year month day)
numbered-date year month day exists =
    let held = five-parts year month day (month_length year month) exists in
    record { from = held.0; first = held.1; last = held.2; begun = held.3; within = held.4; value = refl }

-- the days of a year before a date are fewer than the year's
in-year : (year month day number : ℕ) → IsNumbered year month day number →
    days_of_months year (month - 1) + (day - 1) < year_length year
in-year year month day number is =
    let place : suc (month - 1) ≡ month = omega (arith, is.first) in
    let later = rw place at (days_of_months-later year (month - 1) 12 (omega (arith, is.last))) in
    let whole = days_of_months-year year in
    omega (arith, is.begun, is.within, later, whole)

-- the next day of a month
step-day : (year month day number : ℕ) → IsNumbered year month day number → day < month_length year month →
    IsNumbered year month (day + 1) (suc number)
step-day year month day number is more = record {
  from = is.from;
  first = is.first;
  last = is.last;
  begun = omega arith;
  within = omega arith;
  value = omega (arith, is.value, is.begun);
}

-- the first day of the next month
step-month : (year month day number : ℕ) → IsNumbered year month day number → month_length year month ≤ day →
    month < 12 → IsNumbered year (month + 1) 1 (suc number)
step-month year month day number is over more =
    let place : month + 1 - 1 ≡ month = omega arith in
    let before = days_of_months-before year month is.first in
    record {
      from = is.from;
      first = omega arith;
      last = omega arith;
      begun = omega arith;
      within = omega (arith, month_length-ge year (month + 1));
      value = rw place (omega (arith, is.value, is.begun, is.within, before));
    }

-- the first day of the next year
step-year : (year month day number : ℕ) → IsNumbered year month day number → month_length year month ≤ day →
    12 ≤ month → IsNumbered (year + 1) 1 1 (suc number)
unfolding days_of_months
step-year year month day number is over last =
    let december : month ≡ 12 = omega (arith, is.last) in
    let place : year + 1 - 1970 ≡ year - 1970 + 1 = omega (arith, is.from) in
    let same : 1970 + (year - 1970) ≡ year = omega (arith, is.from) in
    let before = days_of_months-before year month is.first in
    let whole : days_of_months year month ≡ year_length year = rw december (days_of_months-year year) in
    let years = rw same at (days_of_years-more (year - 1970)) in
    record {
      from = omega (arith, is.from);
      first = omega arith;
      last = omega arith;
      begun = omega arith;
      within = omega (arith, month_length-ge (year + 1) 1);
      value = rw place (omega (arith, is.value, is.begun, is.within, before, whole, years));
    }

-- the next date has the next number
pub next-numbered : (d : DateValue) (number : ℕ) → IsNumbered d.year d.month d.day number →
    IsNumbered (next_date d).year (next_date d).month (next_date d).day (suc number)
next-numbered d number is =
    let in_month : (d.day < month_length d.year d.month) ⊎ (month_length d.year d.month ≤ d.day) = grind arith in
    let before_end : (d.month < 12) ⊎ (12 ≤ d.month) = grind arith in
    elim in_month [
      | inl more ↦ rw (lt-ltb d.day (month_length d.year d.month) more) (step-day d.year d.month d.day number is more)
      | inr over ↦ rw (le-ltb d.day (month_length d.year d.month) over) (elim before_end [
        | inl more ↦ rw (lt-ltb d.month 12 more) (step-month d.year d.month d.day number is over more)
        | inr last ↦ rw (le-ltb d.month 12 last) (step-year d.year d.month d.day number is over last)
      ])
    ]

-- the first day of 1970 has the number 0
first-numbered : IsNumbered 1970 1 1 0
unfolding days_of_years days_of_months
first-numbered = record {
  from = omega arith;
  first = omega arith;
  last = omega arith;
  begun = omega arith;
  within = omega arith;
  value = refl;
}

-- the date a number of days after 1970-01-01 has that number
pub date_after-numbered : (n : ℕ) → IsNumbered (date_after n).year (date_after n).month (date_after n).day n
unfolding date_after
date_after-numbered zero = first-numbered
date_after-numbered (suc n) = next-numbered (date_after n) n (date_after-numbered n)

-- a date of an earlier year has an earlier number
earlier-year : (y m d y₂ m₂ d₂ a b : ℕ) → IsNumbered y m d a → IsNumbered y₂ m₂ d₂ b → y < y₂ → a < b
earlier-year y m d y₂ m₂ d₂ a b is is₂ before =
    let same : 1970 + (y - 1970) ≡ y = omega (arith, is.from) in
    let later = rw same at (days_of_years-later (y - 1970) (y₂ - 1970) (omega (arith, is.from))) in
    omega (arith, in-year y m d a is, is.value, is₂.value, later)

-- a date of an earlier month of the year has an earlier number
earlier-month : (y m d m₂ d₂ a b : ℕ) → IsNumbered y m d a → IsNumbered y m₂ d₂ b → m < m₂ → a < b
earlier-month y m d m₂ d₂ a b is is₂ before =
    let same : suc (m - 1) ≡ m = omega (arith, is.first) in
    let later = rw same at (days_of_months-later y (m - 1) (m₂ - 1) (omega (arith, is.first))) in
    omega (arith, is.begun, is.within, is.value, is₂.value, later)

-- numbers of which neither is less are equal
neither : (a b : ℕ) → (a < b → ⊥) → (b < a → ⊥) → a ≡ b
neither a b low high =
    let order : (a < b) ⊎ ((b < a) ⊎ (a ≡ b)) = grind arith in
    elim order [
      | inl less ↦ absurd (low less)
      | inr other ↦ elim other [ inl more ↦ absurd (high more) | inr is ↦ is ]
    ]

-- dates with one number are one date
pub numbered-one : (y m d y₂ m₂ d₂ n : ℕ) → IsNumbered y m d n → IsNumbered y₂ m₂ d₂ n →
    (y ≡ y₂) × (m ≡ m₂) × (d ≡ d₂)
numbered-one y m d y₂ m₂ d₂ n is is₂ =
    let years : y₂ ≡ y =
    neither y₂ y (λ less. let bad = earlier-year y₂ m₂ d₂ y m d n n is₂ is less in omega arith)
    (λ less. let bad = earlier-year y m d y₂ m₂ d₂ n n is is₂ less in omega arith) in
    let there : IsNumbered y m₂ d₂ n = rw years at is₂ in
    let months : m₂ ≡ m =
    neither m₂ m (λ less. let bad = earlier-month y m₂ d₂ m d n n there is less in omega arith)
    (λ less. let bad = earlier-month y m d m₂ d₂ n n is there less in omega arith) in
    let here : IsNumbered y m d₂ n = rw months at there in
    (omega arith, omega arith, omega (arith, is.value, here.value, is.begun, here.begun))
