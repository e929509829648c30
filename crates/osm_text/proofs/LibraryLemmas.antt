-- The library's calendar, whose days are counted from the year -10000 on, against the one from 1970 on.
use Rattle.std.proofs.Common.{◌≡◌, ◌<◌, ◌≤◌, ◌<ℤ◌, ◌+◌, ◌-◌, ◌*◌, ◌⊎◌, inl, inr, ℕ, ℤ, pos, negsuc, zero, suc, Bool, true, false, Some, None, refl, ap, ◌∙◌, arith, ◌≤ℤ◌, ◌+ℤ◌, unsigned_abs, to_z, of_z, w8, w16, w64}
use Rattle.std.specs.Prelude.{◌&&◌, nat_lt, if◌then◌else◌}
use Rattle.std.proofs.lemmas.Bool.{and_parts, ltb-true, lt-leb, lt-ltb}
use Rattle.std.proofs.lemmas.Int.{by_lt_z}
use Rattle.jiff.specs.Types.{Date, DateTime}
use Rattle.jiff.specs.Words.{epoch_day, IsDate, IsTime, IsYmd, IsHms, civil_seconds}
use Rattle.jiff_core.specs.Calendar.{day_count, days_of_months as months_of, IsCivilDate}
use Rattle.jiff_core.proofs.CalendarLemmas.{day_count-day_of_year, day_count-epoch, day_count-lt_year, day_count-next_year, days_from_civil-day_count}
use Rattle.jiff_core.proofs.DateLemmas.{civil}
use Rattle.jiff_core.proofs.SignedLemmas.{back_small, signed_arith}
use Rattle.osm_text.specs.Moments.{fitting_seconds}
use Rattle.osm_text.specs.Times.{clock_seconds, date_after, day_number, days_of_months, days_of_years, existing_clock, existing_day, is_clock, is_date, time_at}
use Rattle.osm_text.proofs.DateLemmas.{IsNumbered, date_after-numbered, exists-numbered, numbered-date, numbered-one}

-- a number of two digits is the same in 8 bits
pub kept-pair : (z : ℤ) (n : ℕ) → z ≡ pos n → n < 100 → to_z w8 (of_z w8 z) ≡ pos n
kept-pair z n is low = rw is (back_small w8 (pos n) (omega arith))

-- a number of four digits is the same in 16 bits
pub kept-year : (z : ℤ) (n : ℕ) → z ≡ pos n → n < 10000 → to_z w16 (of_z w16 z) ≡ pos n
kept-year z n is low = rw is (back_small w16 (pos n) (omega arith))

-- a day number is the same in 64 bits
pub kept-day : (z : ℤ) (n : ℕ) → z ≡ pos n → n < 50000 → to_z w64 (of_z w64 z) ≡ pos n
kept-day z n is low = rw is (back_small w64 (pos n) (omega arith))

-- the first months of a year have the same days
months_of-days : (year k : ℕ) → months_of (pos year) k ≡ days_of_months year k
unfolding months_of days_of_months
months_of-days year zero = refl
months_of-days year (suc k) = rw (months_of-days year k) refl

-- the years from 1970 on have the same days
day_count-year : (k : ℕ) → day_count (pos (1970 + k)) 1 1 ≡ 4_371_953 + days_of_years k
unfolding days_of_years
day_count-year zero = day_count-epoch
day_count-year (suc k) =
    let next : pos (1970 + suc k) ≡ pos (1970 + k) +ℤ pos 1 = omega (arith, signed_arith) in
    let year = day_count-next_year (pos (1970 + k)) (pos (1970 + suc k)) (omega (arith, signed_arith)) next in
    omega (arith, day_count-year k, year)

-- a date from 1970 on has the same number but for the days before 1970
day_count-number : (year month day : ℕ) → 1970 ≤ year → 1 ≤ day →
    day_count (pos year) month day ≡ 4_371_953 + day_number year month day
day_count-number year month day from begun =
    let same : 1970 + (year - 1970) ≡ year = omega arith in
    let years = rw same at (day_count-year (year - 1970)) in
    omega (arith, years, months_of-days year (month - 1), day_count-day_of_year (pos year) month day begun)

-- a date and a time of the day that the library has
abbrev IsParts : ℕ → ℕ → ℕ → ℕ → ℕ → ℕ → Type 0
IsParts year month day hour minute second =
    IsDate (pos year) (pos month) (pos day) × IsTime (pos hour) (pos minute) (pos second) (pos 0)

-- a moment of the library with these parts
abbrev HasParts : ℕ → ℕ → ℕ → ℕ → ℕ → ℕ → DateTime → Type 0
HasParts year month day hour minute second moment =
    IsYmd (pos year) (pos month) (pos day) moment.date × IsHms (pos hour) (pos minute) (pos second) (pos 0) moment.time

-- its date from 1970 on has its number
numbered : (year month day hour minute second : ℕ) → IsParts year month day hour minute second → 1970 ≤ year →
    IsNumbered year month day (day_number year month day)
numbered year month day hour minute second is from = record {
  from = from;
  first = omega (arith, signed_arith, is.0.1);
  last = omega (arith, signed_arith, is.0.1);
  begun = omega (arith, signed_arith, is.0.2);
  within = omega (arith, signed_arith, is.0.2);
  value = refl;
}

-- seconds before 1970 fit nowhere
before-fitting : (seconds : ℤ) → seconds <ℤ pos 0 → fitting_seconds seconds ≡ None
before-fitting (pos n) less = absurd (omega (arith, signed_arith))
before-fitting (negsuc n) less = refl

-- the seconds of a moment from 1970 on
seconds-from : (moment : DateTime) (year month day hour minute second : ℕ) →
    IsParts year month day hour minute second → HasParts year month day hour minute second moment → 1970 ≤ year →
    civil_seconds moment ≡ pos (day_number year month day * 86400 + clock_seconds hour minute second)
unfolding civil_seconds
seconds-from moment year month day hour minute second is has from =
    let is_month : moment.date.month ≡ month = omega (arith, signed_arith, has.0.1) in
    let is_day : moment.date.day ≡ day = omega (arith, signed_arith, has.0.2) in
    let count = day_count-number year month day from (omega (arith, signed_arith, is.0.2)) in
    let number = days_from_civil-day_count (pos year) month day in
    rw (has.0.0, is_month, is_day) (omega (arith, signed_arith, count, number, has.1))

-- the seconds of a moment before 1970
seconds-before : (moment : DateTime) (year month day hour minute second : ℕ) →
    IsParts year month day hour minute second → HasParts year month day hour minute second moment → year < 1970 →
    civil_seconds moment <ℤ pos 0
unfolding civil_seconds
seconds-before moment year month day hour minute second is has before =
    let is_month : moment.date.month ≡ month = omega (arith, signed_arith, has.0.1) in
    let is_day : moment.date.day ≡ day = omega (arith, signed_arith, has.0.2) in
    let civil : IsCivilDate (pos year) month day = (
      is.0.0,
      (omega (arith, signed_arith, is.0.1), omega (arith, signed_arith, is.0.1)),
      (omega (arith, signed_arith, is.0.2), omega (arith, signed_arith, is.0.2)),
    ) in
    let count = day_count-lt_year (pos year) month day (pos 1970) 1 1 civil (omega arith)
    (omega (arith, signed_arith)) in
    let number = days_from_civil-day_count (pos year) month day in
    rw (has.0.0, is_month, is_day) (omega (arith, signed_arith, count, day_count-epoch, number, has.1, is.1))

-- a time of the day that the library has exists
clock-exists : (year month day hour minute second : ℕ) → IsParts year month day hour minute second →
    is_clock hour minute second ≡ true
clock-exists year month day hour minute second is =
    rw (
      lt-ltb hour 24 (omega (arith, signed_arith, is.1)),
      lt-ltb minute 60 (omega (arith, signed_arith, is.1)),
      lt-ltb second 60 (omega (arith, signed_arith, is.1)),
    ) refl

-- no date before 1970 is there
before-date : (year month day : ℕ) → year < 1970 → existing_day year month day ≡ None
before-date year month day before = rw (lt-leb 1970 year before) refl

-- a moment that the library has means the seconds to its date and its time of the day
pub seconds-existing : (moment : DateTime) (year month day hour minute second : ℕ) →
    IsParts year month day hour minute second → HasParts year month day hour minute second moment →
    fitting_seconds (civil_seconds moment) ≡ time_at (existing_day year month day) (existing_clock hour minute second)
seconds-existing moment year month day hour minute second is has =
    let era : (1970 ≤ year) ⊎ (year < 1970) = grind arith in
    elim era [
      | inl from ↦ rw (
        exists-numbered year month day (day_number year month day)
            (numbered year month day hour minute second is from),
        clock-exists year month day hour minute second is,
        seconds-from moment year month day hour minute second is has from,
      ) refl
      | inr before ↦ rw (
        before-date year month day before,
        before-fitting (civil_seconds moment)
            (seconds-before moment year month day hour minute second is has before),
      ) refl
    ]

-- where one of two is missing there are no seconds
missing : (is_there has_clock : Bool) (day clock : ℕ) → (is_there ≡ true → has_clock ≡ true → ⊥) →
    None ≡ time_at (if is_there then Some day else None) (if has_clock then Some clock else None)
missing true true day clock lacks = absurd (lacks refl refl)
missing true false day clock lacks = refl
missing false has_clock day clock lacks = refl

-- a date and a time of the day that exist are in the library
parts-exist : (year month day hour minute second : ℕ) → year < 10000 → is_date year month day ≡ true →
    is_clock hour minute second ≡ true → IsParts year month day hour minute second
parts-exist year month day hour minute second low date clock =
    let is = numbered-date year month day date in
    let late = and_parts (nat_lt hour 24 && nat_lt minute 60) (nat_lt second 60) clock in
    let early = and_parts (nat_lt hour 24) (nat_lt minute 60) late.0 in
    let hours = ltb-true hour 24 early.0 in
    let minutes = ltb-true minute 60 early.1 in
    let seconds = ltb-true second 60 late.1 in (
      (
        omega (arith, signed_arith),
        omega (arith, signed_arith, is.first, is.last),
        omega (arith, signed_arith, is.begun, is.within),
      ),
      omega (arith, signed_arith),
    )

-- a date or a time of the day that the library lacks gives no seconds
pub seconds-missing : (year month day hour minute second : ℕ) → year < 10000 →
    (IsParts year month day hour minute second → ⊥) →
    None ≡ time_at (existing_day year month day) (existing_clock hour minute second)
seconds-missing year month day hour minute second low lacks =
    missing (is_date year month day) (is_clock hour minute second) (day_number year month day)
    (clock_seconds hour minute second)
    (λ date clock. lacks (parts-exist year month day hour minute second low date clock))

-- a date of the library with a number from 0 on lies in or after 1970
year-from : (d : Date) (n : ℕ) → epoch_day d ≡ pos n → pos 1970 ≤ℤ d.year
year-from d n is =
    let number = days_from_civil-day_count d.year d.month d.day in
    by_lt_z d.year (pos 1970)
    (λ less. let count = day_count-lt_year d.year d.month d.day (pos 1970) 1 1 (civil d) (omega arith) less in
    absurd (omega (arith, signed_arith, count, day_count-epoch, number)))
    (λ from. from)

-- such a year is its size
year-size : (z : ℤ) → pos 1970 ≤ℤ z → z ≡ pos (unsigned_abs z)
year-size (pos n) from = refl
year-size (negsuc n) from = absurd (omega (arith, signed_arith))

-- and is the date that has the number
date-numbered : (d : Date) (year n : ℕ) → d.year ≡ pos year → 1970 ≤ year → epoch_day d ≡ pos n →
    IsNumbered year d.month d.day n
date-numbered d year n is_year from is =
    let count = day_count-number year d.month d.day from (omega (arith, d.day_in)) in
    let number = rw is_year at (days_from_civil-day_count d.year d.month d.day) in
    let day = rw is_year at is in
    let month = rw is_year at d.day_in in
    record {
      from = from;
      first = omega (arith, d.month_in);
      last = omega (arith, d.month_in);
      begun = omega (arith, d.day_in);
      within = month.1;
      value = omega (arith, signed_arith, count, number, day);
    }

-- the library's date of a day by its number
pub date-after : (d : Date) (n : ℕ) → epoch_day d ≡ pos n →
    (d.year ≡ pos (date_after n).year) × (d.month ≡ (date_after n).month) × (d.day ≡ (date_after n).day)
date-after d n is =
    let from = year-from d n is in
    let is_year = year-size d.year from in
    let late : 1970 ≤ unsigned_abs d.year = omega (arith, signed_arith, rw is_year at from) in
    let one = numbered-one (unsigned_abs d.year) d.month d.day
    (date_after n).year (date_after n).month (date_after n).day n
    (date-numbered d (unsigned_abs d.year) n is_year late is) (date_after-numbered n) in
    (is_year ∙ ap pos one.0, one.1, one.2)
