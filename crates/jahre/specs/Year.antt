-- A year by three numbers, and its holidays by them. Days of a year are counted from 0.
--   year_numbers k     = the year 1996 + k: the weekday of its 1 January, its leap days, the day of Easter Sunday
--   on_weekday f r     = whether day r of a year that begins on weekday f is no Saturday or Sunday
--   weekdays m         = how many of m days from a Monday on are none
--   fixed_in l         = the fixed days of a year with l leap days
--   bettag_in f l      = its Buß- und Bettag
--   himmelfahrt_in l e = its Christi Himmelfahrt, Easter Sunday being day e
--   feasts_with e h    = the feasts that move with Easter, h being Christi Himmelfahrt
--   holidays y         = all 20; no weekday stands in them twice
-- and what the code knows of a year; no reader need believe it:
--   no_day             = 366, a day that no year has
--   or_no_day f r      = day r, if it is a weekday, else no_day
--   himmelfahrt_or l e = Christi Himmelfahrt, unless it falls on 1 May
--   weekday_holidays y = the holidays, with no day in the places of Saturdays and Sundays
--   holiday_year cal k = the fields of the year 1996 + k as a count inside it needs it
-- Source: document 01, 'lib.rs, calendar', with each date as a day of the year.
-- Assumes nothing.
use Rattle.std.specs.Prelude.{ℕ, ◌+◌, ◌-◌, ◌/◌, ◌%◌, Bool, not, cond, List, [], ◌∷◌, ◌++◌, map, eqb, leb}
use Rattle.zaehlung.specs.Walk.{bit}
use Rattle.datum.specs.Calendar.{first_year, is_leap, year_start, weekday}
use Rattle.werktag.specs.declared.HolidayCalendar.{HolidayCalendar}
use Rattle.werktag.specs.declared.HolidayCalendar.TheVariants.{BdewMaKo}
use Rattle.werktag.specs.Easter.{easter_index}
use Rattle.jahre.specs.YearNumbers.{YearNumbers}
use Rattle.jahre.specs.declared.HolidayYear.TheInside.{Inside}

unfoldable pub year_numbers : ℕ → YearNumbers
year_numbers k =
    let y = first_year + k in
    record { first = weekday (year_start k); leaps = bit (is_leap y); easter = easter_index y - year_start k }

unfoldable pub on_weekday : ℕ → ℕ → Bool
on_weekday f r = not (leb 5 ((f + r) % 7))

-- less the Saturdays, less the Sundays
unfoldable pub weekdays : ℕ → ℕ
weekdays m = m - (m + 1) / 7 - m / 7

-- '1.1., 6.1., 8.3., 1.5., 15.8., 20.9., 3.10., 31.10., 1.11., 24.12., 25.12., 26.12., 31.12.'
abbrev pub fixed_in : ℕ → List ℕ
fixed_in l =
    0 ∷ 5 ∷ (66 + l) ∷ (120 + l) ∷ (226 + l) ∷ (262 + l) ∷ (275 + l) ∷ (303 + l) ∷ (304 + l)
    ∷ (357 + l) ∷ (358 + l) ∷ (359 + l) ∷ (364 + l) ∷ []

-- 'the Wednesday from 16 to 22 November'
abbrev pub bettag_in : ℕ → ℕ → ℕ
bettag_in f l = 325 + l - (f + l + 1) % 7

-- On 1 May, a holiday already, as in 2008, Pfingstsonntag stands in its place.
abbrev pub himmelfahrt_in : ℕ → ℕ → ℕ
himmelfahrt_in l e = cond (eqb (e + 39) (120 + l)) (e + 49) (e + 39)

-- 'Easter Sunday −2, +1, +39, +49, +50, +60 days'
abbrev pub feasts_with : ℕ → ℕ → List ℕ
feasts_with e h = (e - 2) ∷ (e + 1) ∷ h ∷ (e + 49) ∷ (e + 50) ∷ (e + 60) ∷ []

unfoldable pub holidays : YearNumbers → List ℕ
holidays y =
    let e = y.easter in
    fixed_in y.leaps ++ (bettag_in y.first y.leaps ∷ feasts_with e (himmelfahrt_in y.leaps e))

abbrev pub no_day : ℕ
no_day = 366

unfoldable pub or_no_day : ℕ → ℕ → ℕ
or_no_day f r = cond (on_weekday f r) r no_day

abbrev pub himmelfahrt_or : ℕ → ℕ → ℕ
himmelfahrt_or l e = cond (eqb (e + 39) (120 + l)) no_day (e + 39)

unfoldable pub weekday_holidays : YearNumbers → List ℕ
weekday_holidays y = map (or_no_day y.first) (holidays y)

unfoldable pub holiday_year : HolidayCalendar → ℕ → Inside
holiday_year BdewMaKo k =
    let y = year_numbers k in
    record { cal = BdewMaKo; year = k; first = y.first; holidays = weekday_holidays y }
