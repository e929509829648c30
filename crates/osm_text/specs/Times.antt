-- Times as texts, as 2010-01-01T00:00:00Z: the calendar, and seconds since 1970-01-01T00:00:00Z.
-- Here days are counted year by year, month by month and day by day; the code takes the calendar of jiff.
use Rattle.std.specs.Prelude.{ℕ, zero, suc, ◌+◌, ◌-◌, ◌*◌, ◌/◌, ◌%◌, ◌^◌, List, [], ◌∷◌, ◌++◌, length, take, drop, Bool, not, ◌&&◌, ◌||◌, ◌==◌, nat_lt, nat_le, if◌then◌else◌, Option, Some, None, slice_index}
use Rattle.std.specs.Char.{is_digit}
use Rattle.std.specs.List.{list_all}
use Rattle.std.specs.Str.Parse.{digits_value}
use Rattle.osm_entity.specs.Ascii.{minus_sign, colon, digit_zero, capital_t, capital_z}

-- every fourth year is a leap year, but of the centuries only every fourth
abbrev pub is_leap : ℕ → Bool
is_leap year = (year % 4 == 0) && (not (year % 100 == 0) || (year % 400 == 0))

-- the days of a year
abbrev pub year_length : ℕ → ℕ
year_length year = if is_leap year then 366 else 365

-- the days of a month: thirty days have September, April, June and November
abbrev pub month_length : ℕ → ℕ → ℕ
month_length year month =
    if month == 2 then (if is_leap year then 29 else 28)
    else (if (month == 4) || (month == 6) || (month == 9) || (month == 11) then 30 else 31)

-- a date from 1970 on exists: its month is one of twelve, its day one of the month's
abbrev pub is_date : ℕ → ℕ → ℕ → Bool
is_date year month day =
    nat_le 1970 year && nat_lt 0 month && nat_le month 12 && nat_lt 0 day && nat_le day (month_length year month)

-- the days of a number of years from 1970 on
unfoldable pub days_of_years : ℕ → ℕ
days_of_years zero = 0
days_of_years (suc count) = days_of_years count + year_length (1970 + count)

-- the days of the first months of a year
unfoldable pub days_of_months : ℕ → ℕ → ℕ
days_of_months year zero = 0
days_of_months year (suc count) = days_of_months year count + month_length year (suc count)

-- the days from 1970-01-01 to a date
abbrev pub day_number : ℕ → ℕ → ℕ → ℕ
day_number year month day = days_of_years (year - 1970) + days_of_months year (month - 1) + (day - 1)

-- the day number of a date that exists
abbrev pub existing_day : ℕ → ℕ → ℕ → Option ℕ
existing_day year month day = if is_date year month day then Some (day_number year month day) else None

-- a date: its year, month and day
pub record DateValue : Type 0 where
  pub year : ℕ
  pub month : ℕ
  pub day : ℕ

-- the day after a date: the next of its month, else the first of the next month, else that of the next year
abbrev pub next_date : DateValue → DateValue
next_date d =
    if nat_lt d.day (month_length d.year d.month)
    then record { year = d.year; month = d.month; day = d.day + 1 }
    else if nat_lt d.month 12 then record { year = d.year; month = d.month + 1; day = 1 }
    else record { year = d.year + 1; month = 1; day = 1 }

-- the date a number of days after 1970-01-01, one day after another
unfoldable pub date_after : ℕ → DateValue
date_after zero = record { year = 1970; month = 1; day = 1 }
date_after (suc days) = next_date (date_after days)

-- a time of a day exists
abbrev pub is_clock : ℕ → ℕ → ℕ → Bool
is_clock hour minute second = nat_lt hour 24 && nat_lt minute 60 && nat_lt second 60

-- the seconds from midnight to a time of the day
abbrev pub clock_seconds : ℕ → ℕ → ℕ → ℕ
clock_seconds hour minute second = hour * 3600 + minute * 60 + second

-- the seconds to a time of the day that exists
abbrev pub existing_clock : ℕ → ℕ → ℕ → Option ℕ
existing_clock hour minute second =
    if is_clock hour minute second then Some (clock_seconds hour minute second) else None

-- a number of seconds below 2^32
abbrev pub fitting_time : ℕ → Option ℕ
fitting_time seconds = if nat_lt seconds (2 ^ 32) then Some seconds else None

-- where the two digits of a date begin, in YYYY-MM-DD
abbrev pub date_places : List ℕ
date_places = 0 ∷ 2 ∷ 5 ∷ 8 ∷ []

-- where the two digits of a time of the day begin, in HH:MM:SS after a date and a T
abbrev pub clock_places : List ℕ
clock_places = 11 ∷ 14 ∷ 17 ∷ []

-- two digits stand at a place
abbrev pub are_two_digits : List ℕ → ℕ → Bool
are_two_digits bytes place = is_digit (slice_index bytes place) 10 && is_digit (slice_index bytes (place + 1)) 10

-- two hyphens, a T, two colons and a Z stand at their places
abbrev pub has_marks : List ℕ → Bool
has_marks bytes =
    (slice_index bytes 4 == minus_sign) && (slice_index bytes 7 == minus_sign) && (slice_index bytes 10 == capital_t) &&
    (slice_index bytes 13 == colon) && (slice_index bytes 16 == colon) && (slice_index bytes 19 == capital_z)

-- twenty bytes of the form YYYY-MM-DDTHH:MM:SSZ
abbrev pub has_form : List ℕ → Bool
has_form bytes =
    (length bytes == 20) && has_marks bytes &&
    list_all (are_two_digits bytes) date_places && list_all (are_two_digits bytes) clock_places

-- the number that a number of digits write from a place on
abbrev pub number_at : ℕ → ℕ → List ℕ → ℕ
number_at place count bytes = digits_value 10 (take count (drop place bytes))

-- the day number of the date in a text of this form, where the date exists
abbrev pub day_at : List ℕ → Option ℕ
day_at bytes = existing_day (number_at 0 4 bytes) (number_at 5 2 bytes) (number_at 8 2 bytes)

-- the seconds from midnight to the time of the day in a text of this form, where that time exists
abbrev pub clock_at : List ℕ → Option ℕ
clock_at bytes = existing_clock (number_at 11 2 bytes) (number_at 14 2 bytes) (number_at 17 2 bytes)

-- the seconds to a time of the day at a day by its number, where both are there and the seconds lie below 2^32
abbrev pub time_at : Option ℕ → Option ℕ → Option ℕ
time_at (Some day) (Some clock) = fitting_time (day * 86400 + clock)
time_at day clock = None

-- a time is a text of this form whose date and time of the day exist, in seconds since 1970-01-01T00:00:00Z
unfoldable pub time : List ℕ → Option ℕ
time bytes = if has_form bytes then time_at (day_at bytes) (clock_at bytes) else None

-- a number below 100 in two digits
abbrev pub two_text : ℕ → List ℕ
two_text n = (digit_zero + n / 10) ∷ (digit_zero + n % 10) ∷ []

-- a date as YYYY-MM-DD
abbrev pub date_text : ℕ → ℕ → ℕ → List ℕ
date_text year month day =
    two_text (year / 100) ++ two_text (year % 100) ++ minus_sign ∷ two_text month ++ minus_sign ∷ two_text day

-- a time of the day as HH:MM:SS
abbrev pub clock_text : ℕ → ℕ → ℕ → List ℕ
clock_text hour minute second = two_text hour ++ colon ∷ two_text minute ++ colon ∷ two_text second

-- seconds from midnight as HH:MM:SS
abbrev pub clock_after : ℕ → List ℕ
clock_after seconds = clock_text (seconds / 3600) (seconds / 60 % 60) (seconds % 60)

-- the date a number of days after 1970-01-01 as YYYY-MM-DD
abbrev pub date_after_text : ℕ → List ℕ
date_after_text days = date_text (date_after days).year (date_after days).month (date_after days).day

-- seconds since 1970-01-01T00:00:00Z as the text of a time: days of 86,400 seconds, and the rest of a day
unfoldable pub time_text : ℕ → List ℕ
time_text seconds = date_after_text (seconds / 86400) ++ capital_t ∷ clock_after (seconds % 86400) ++ capital_z ∷ []
