-- The days of years and months: their sizes, and which date a day number has.
use Rattle.std.proofs.Common.{◌≡◌, ◌<◌, ◌≤◌, ◌+◌, ◌-◌, ◌*◌, ◌⊎◌, inl, inr, ℕ, zero, suc, refl, arith, add-one}
use Rattle.std.proofs.lemmas.Bool.Decides.{nat_tests}
use Rattle.osm_text.specs.Times.{year_length, month_length, days_of_years, days_of_months}

-- no month has more than 31 days
pub month_length-le : (year month : ℕ) → month_length year month ≤ 31
month_length-le year month = grind arith

-- each year has at least 365 days
year_length-ge : (year : ℕ) → 365 ≤ year_length year
year_length-ge year = grind arith

-- years have at least 365 days each
pub days_of_years-ge : (k : ℕ) → 365 * k ≤ days_of_years k
unfolding days_of_years
days_of_years-ge zero = omega arith
days_of_years-ge (suc k) = omega (arith, year_length-ge (1970 + k), days_of_years-ge k)

-- one year more
pub days_of_years-more : (k : ℕ) → days_of_years (k + 1) ≡ days_of_years k + year_length (1970 + k)
unfolding days_of_years
days_of_years-more k = rw add-one refl

-- the months of a year make the year
pub days_of_months-year : (year : ℕ) → days_of_months year 12 ≡ year_length year
unfolding days_of_months
days_of_months-year year = grind (arith, nat_tests)

-- a later year begins after an earlier one ends
pub days_of_years-later : (k n : ℕ) → k < n → days_of_years k + year_length (1970 + k) ≤ days_of_years n
unfolding days_of_years
days_of_years-later k zero before = absurd (omega arith)
days_of_years-later k (suc n) before =
    let now_or_before : (k < n) ⊎ (k ≡ n) = grind arith in
    elim now_or_before [ inl earlier ↦ omega (arith, days_of_years-later k n earlier) | inr is ↦ rw is (omega arith) ]

-- a later month begins after an earlier one ends
pub days_of_months-later : (year k n : ℕ) → k < n →
    days_of_months year k + month_length year (suc k) ≤ days_of_months year n
unfolding days_of_months
days_of_months-later year k zero before = absurd (omega arith)
days_of_months-later year k (suc n) before =
    let now_or_before : (k < n) ⊎ (k ≡ n) = grind arith in
    elim now_or_before [
      | inl earlier ↦ omega (arith, days_of_months-later year k n earlier)
      | inr is ↦ rw is (omega arith)
    ]

-- each month has at least 28 days
pub month_length-ge : (year month : ℕ) → 28 ≤ month_length year month
month_length-ge year month = grind arith

-- a month and the months before it
pub days_of_months-before : (year month : ℕ) → 0 < month →
    days_of_months year month ≡ days_of_months year (month - 1) + month_length year month
unfolding days_of_months
days_of_months-before year zero some = absurd (omega arith)
days_of_months-before year (suc k) some =
    let before : suc k - 1 ≡ k = omega arith in
    rw before refl
