-- The Gregorian calendar from 1 January 1996 to 31 December 2899.
--   first_year, last_year = 1996 and 2899
--   is_leap y             = whether y is a leap year
--   days_in_month l m     = days of month m, counted from 1, in a leap (l) or a common year; 0 for no month
--   month_start l m       = days of the year before month m
--   year_len k            = days of the year 1996 + k
--   year_start k          = days from 1 January 1996 to 1 January of the year 1996 + k
--   is_date d             = whether d is a date of the range
--   days_before d         = the days from 1 January 1996 to a date of the range: its index
--   index_of d            = the index of a date, or NoDate
--   year_of i             = the year of the day with index i, counted from 1996, and the day in it, counted from 0
--   day_of_year i         = the days from 1 January of its year up to and including it
--   month_of l r          = the month of day r of a year, and the day in it, counted from 0
--   date_in k r           = the date of day r of the year 1996 + k
--   date_of i             = the date of the day with index i
--   weekday i             = the weekday of that day, Monday 0 to Sunday 6
-- Source: document 01, first paragraph; the Gregorian calendar.
use Rattle.std.specs.Prelude.{ℕ, ◌+◌, ◌-◌, ◌%◌, Bool, not, ◌&&◌, ◌||◌, cond, List, [], ◌∷◌, eqb, leb, get_or, Option}
use Rattle.std.specs.Prelude.{Some, None}
use Rattle.zaehlung.specs.Walk.{bit}
use Rattle.zaehlung.specs.Blocks.{start, at}
use Rattle.datum.specs.declared.Date.{Date}

-- 'A date lies from 1 January 1996 to 31 December 2899 (330,180 days).'
abbrev pub first_year : ℕ
first_year = 1996

abbrev pub last_year : ℕ
last_year = 2899

-- every fourth year, of the full hundreds every fourth
unfoldable pub is_leap : ℕ → Bool
is_leap y = eqb (y % 4) 0 && (not (eqb (y % 100) 0) || eqb (y % 400) 0)

abbrev pub months : Bool → List ℕ
months l = 0 ∷ 31 ∷ (28 + bit l) ∷ 31 ∷ 30 ∷ 31 ∷ 30 ∷ 31 ∷ 31 ∷ 30 ∷ 31 ∷ 30 ∷ 31 ∷ []

unfoldable pub days_in_month : Bool → ℕ → ℕ
days_in_month l m = get_or (months l) m 0

abbrev pub month_start : Bool → ℕ → ℕ
month_start l m = start (days_in_month l) m

unfoldable pub year_len : ℕ → ℕ
year_len k = 365 + bit (is_leap (first_year + k))

abbrev pub year_start : ℕ → ℕ
year_start k = start year_len k

unfoldable pub is_date : Date → Bool
is_date d =
    leb first_year d.year && (leb d.year last_year
    && (leb 1 d.month && (leb d.month 12
    && (leb 1 d.day && leb d.day (days_in_month (is_leap d.year) d.month)))))

-- the days of the years, of the months and of the month before a date
abbrev pub days_before : Date → ℕ
days_before d = year_start (d.year - first_year) + month_start (is_leap d.year) d.month + (d.day - 1)

unfoldable pub index_of : Date → Option ℕ
index_of d = cond (is_date d) (Some (days_before d)) None

abbrev pub year_of : ℕ → ℕ × ℕ
year_of i = at year_len 903 0 i

abbrev pub day_of_year : ℕ → ℕ
day_of_year i = (year_of i).1 + 1

abbrev pub month_of : Bool → ℕ → ℕ × ℕ
month_of l r = at (days_in_month l) 11 1 r

-- the date of day r of the year 1996 + k
unfoldable pub date_in : ℕ → ℕ → Date
date_in k r =
    let m = month_of (is_leap (first_year + k)) r in
    record { year = first_year + k; month = m.0; day = m.1 + 1 }

unfoldable pub date_of : ℕ → Date
date_of i = let y = year_of i in date_in y.0 y.1

-- 1 January 1996 was a Monday
abbrev pub weekday : ℕ → ℕ
weekday i = i % 7
