-- Werktage by the list of document 01, the same in every year.
--   fixed_days               = the fixed days, day and month
--   is_day m d x             = whether day d of month m is the fixed day x
--   is_fixed m d             = whether it is one of them
--   is_buss_und_bettag m d w = whether it is the Wednesday from 16 to 22 November, w being its weekday
--   easter_offsets           = the days from Easter Sunday to each feast that moves with it
--   at_feast i e             = whether the day with index i lies at one of these distances from the day with index e
--   is_feast i y o           = whether the day with index i lies o days from Easter Sunday of the year y
--   is_easter_feast i y      = whether it is one of the feasts of the year y that move with Easter
--   is_listed i d            = whether the day with index i and date d is in the list
--   is_werktag_in cal k r    = whether day r, from 0 on, of the year 1996 + k is a Werktag
--   is_werktag cal i         = whether the day with index i is a Werktag
-- The day test is one of a year and a day in it, so that a fact about all days can be computed year by year;
-- the crate jahre has a form of it for that.
-- Source: GPKE Teil 1 (Werktag: 'alle Tage .., die kein Samstag, Sonntag oder gesetzlicher Feiertag sind'; a holiday of
-- one Land counts everywhere; 24.12. and 31.12. count as holidays); document 01, 'lib.rs, calendar', for the list.
use Rattle.std.specs.Prelude.{ℕ, ◌+◌, Bool, false, not, ◌&&◌, ◌||◌, List, [], ◌∷◌, eqb, leb, ℤ, pos, negsuc, neg_ℤ}
use Rattle.std.specs.Prelude.{◌+ℤ◌, ◌-ℤ◌}
use Rattle.zaehlung.specs.Lists.{any}
use Rattle.datum.specs.declared.Date.{Date}
use Rattle.datum.specs.Calendar.{year_start, year_of, date_in, weekday}
use Rattle.werktag.specs.declared.HolidayCalendar.{HolidayCalendar}
use Rattle.werktag.specs.declared.HolidayCalendar.TheVariants.{BdewMaKo}
use Rattle.werktag.specs.Easter.{easter_index}

-- whether two signed numbers are equal
abbrev pub eq_z : ℤ → ℤ → Bool
eq_z (pos a) (pos b) = eqb a b
eq_z (pos a) (negsuc b) = false
eq_z (negsuc a) (pos b) = false
eq_z (negsuc a) (negsuc b) = eqb a b

-- 'The fixed days are a table: 1.1., 6.1., 8.3., 1.5., 15.8., 20.9., 3.10., 31.10., 1.11., 24.12., 25.12., 26.12.,
-- 31.12.'
abbrev pub fixed_days : List (ℕ × ℕ)
fixed_days =
    (1, 1) ∷ (6, 1) ∷ (8, 3) ∷ (1, 5) ∷ (15, 8) ∷ (20, 9) ∷ (3, 10) ∷ (31, 10) ∷ (1, 11)
    ∷ (24, 12) ∷ (25, 12) ∷ (26, 12) ∷ (31, 12) ∷ []

abbrev pub is_day : ℕ → ℕ → ℕ × ℕ → Bool
is_day m d x = eqb x.0 d && eqb x.1 m

unfoldable pub is_fixed : ℕ → ℕ → Bool
is_fixed m d = any (is_day m d) fixed_days

-- 'Then the Wednesday from 16 to 22 November'
unfoldable pub is_buss_und_bettag : ℕ → ℕ → ℕ → Bool
is_buss_und_bettag m d w = eqb m 11 && (leb 16 d && (leb d 22 && eqb w 2))

-- 'then Easter Sunday −2, +1, +39, +49, +50, +60 days'
abbrev pub easter_offsets : List ℤ
easter_offsets = neg_ℤ (pos 2) ∷ pos 1 ∷ pos 39 ∷ pos 49 ∷ pos 50 ∷ pos 60 ∷ []

unfoldable pub at_feast : ℕ → ℕ → Bool
at_feast i e = any (eq_z (pos i -ℤ pos e)) easter_offsets

abbrev pub is_feast : ℕ → ℕ → ℤ → Bool
is_feast i y o = eq_z (pos i) (pos (easter_index y) +ℤ o)

unfoldable pub is_easter_feast : ℕ → ℕ → Bool
is_easter_feast i y = any (is_feast i y) easter_offsets

abbrev pub is_listed : ℕ → Date → Bool
is_listed i d =
    is_fixed d.month d.day || (is_buss_und_bettag d.month d.day (weekday i) || is_easter_feast i d.year)

-- 'Werktag: not Saturday, Sunday or a holiday (GPKE Teil 1).' The day's index is year_start k + r.
abbrev pub is_werktag_in : HolidayCalendar → ℕ → ℕ → Bool
is_werktag_in BdewMaKo k r =
    let i = year_start k + r in
    not (leb 5 (weekday i)) && not (is_listed i (date_in k r))

unfoldable pub is_werktag : HolidayCalendar → ℕ → Bool
is_werktag cal i = let y = year_of i in is_werktag_in cal y.0 y.1
