-- Why a day is closed: the first that holds of what closes a day, by its number.
--   reason_number r   = the number of the reason r; a Werktag has none, and 0 stands for that
--   place_from n bs   = the place of the first test in bs that holds, places being counted from n on; 0 if none holds
--   weekend_tests i   = whether the day with index i is a Saturday, a Sunday
--   fixed_tests m d   = whether day d of month m is the first of the fixed days, the second ..
--   fixed_place m d   = the place of day d of month m among the fixed days, which have 3 and so on
--   fixed_bits m      = the fixed days of month m, 2 to the power of its day for each
--   feast_tests i y   = whether the day with index i is the first of the year y's feasts by Easter, the second ..
--   feast_place i e   = the place of the day with index i among the feasts, which have 17 and so on, Easter Sunday
--                       having the index e
--   holiday_tests i d = the whole list, for the day with index i and date d
--   holiday_place i   = the place of the day with index i in the list
--   day_tests i d     = all that closes it, in the order of the numbers
--   reason_in cal k r = the reason of day r, from 0 on, of the year 1996 + k
--   reason cal i      = the reason of the day with index i
-- Source: document 02, F-2: '0 Werktag, 1 Saturday, 2 Sunday, 3 to 22 the holidays in document 01's order. Weekend goes
-- before holiday. Two holidays on one date give the lower number, as on 1 May 2008.'
use Rattle.std.specs.Prelude.{ℕ, ◌+◌, ◌^◌, Bool, true, false, cond, eqb, sum_by, pos, ◌-ℤ◌}
use mathlib.Core.List.{List, [], ◌∷◌, ◌++◌, map}
use Rattle.datum.specs.declared.Date.{Date}
use Rattle.datum.specs.Calendar.{year_start, year_of, date_in, date_of, weekday}
use Rattle.werktag.specs.declared.feiertage.Reason.{Reason}
use Rattle.werktag.specs.declared.feiertage.Reason.TheVariants.{Samstag, Sonntag, Neujahr}
use Rattle.werktag.specs.declared.feiertage.Reason.TheVariants.{HeiligeDreiKoenige, Frauentag, TagDerArbeit}
use Rattle.werktag.specs.declared.feiertage.Reason.TheVariants.{MariaeHimmelfahrt, Weltkindertag}
use Rattle.werktag.specs.declared.feiertage.Reason.TheVariants.{TagDerDeutschenEinheit, Reformationstag}
use Rattle.werktag.specs.declared.feiertage.Reason.TheVariants.{Allerheiligen, Heiligabend}
use Rattle.werktag.specs.declared.feiertage.Reason.TheVariants.{ErsterWeihnachtstag, ZweiterWeihnachtstag, Silvester}
use Rattle.werktag.specs.declared.feiertage.Reason.TheVariants.{BussUndBettag, Karfreitag, Ostermontag}
use Rattle.werktag.specs.declared.feiertage.Reason.TheVariants.{ChristiHimmelfahrt, Pfingstsonntag, Pfingstmontag}
use Rattle.werktag.specs.declared.feiertage.Reason.TheVariants.{Fronleichnam}
use Rattle.werktag.specs.declared.HolidayCalendar.{HolidayCalendar}
use Rattle.werktag.specs.declared.HolidayCalendar.TheVariants.{BdewMaKo}
use Rattle.werktag.specs.Werktag.{eq_z, is_day, fixed_days, is_buss_und_bettag, is_feast, easter_offsets}

abbrev pub reason_number : Reason → ℕ
reason_number Samstag = 1
reason_number Sonntag = 2
reason_number Neujahr = 3
reason_number HeiligeDreiKoenige = 4
reason_number Frauentag = 5
reason_number TagDerArbeit = 6
reason_number MariaeHimmelfahrt = 7
reason_number Weltkindertag = 8
reason_number TagDerDeutschenEinheit = 9
reason_number Reformationstag = 10
reason_number Allerheiligen = 11
reason_number Heiligabend = 12
reason_number ErsterWeihnachtstag = 13
reason_number ZweiterWeihnachtstag = 14
reason_number Silvester = 15
reason_number BussUndBettag = 16
reason_number Karfreitag = 17
reason_number Ostermontag = 18
reason_number ChristiHimmelfahrt = 19
reason_number Pfingstsonntag = 20
reason_number Pfingstmontag = 21
reason_number Fronleichnam = 22

unfoldable pub place_from : ℕ → List Bool → ℕ
place_from n [] = 0
place_from n (true ∷ bs) = n
place_from n (false ∷ bs) = place_from (n + 1) bs

abbrev pub weekend_tests : ℕ → List Bool
weekend_tests i = eqb (weekday i) 5 ∷ eqb (weekday i) 6 ∷ []

abbrev pub fixed_tests : ℕ → ℕ → List Bool
fixed_tests m d = map (is_day m d) fixed_days

unfoldable pub fixed_place : ℕ → ℕ → ℕ
fixed_place m d = place_from 3 (fixed_tests m d)

unfoldable pub fixed_bits : ℕ → ℕ
fixed_bits m = sum_by (λ x. cond (eqb x.1 m) (2 ^ x.0) 0) fixed_days

abbrev pub feast_tests : ℕ → ℕ → List Bool
feast_tests i y = map (is_feast i y) easter_offsets

unfoldable pub feast_place : ℕ → ℕ → ℕ
feast_place i e = place_from 17 (map (eq_z (pos i -ℤ pos e)) easter_offsets)

-- document 01: 'The fixed days are a table: .. Then the Wednesday from 16 to 22 November, then Easter Sunday ..'
abbrev pub holiday_tests : ℕ → Date → List Bool
holiday_tests i d =
    fixed_tests d.month d.day
    ++ (is_buss_und_bettag d.month d.day (weekday i) ∷ feast_tests i d.year)

unfoldable pub holiday_place : ℕ → ℕ
holiday_place i = place_from 3 (holiday_tests i (date_of i))

abbrev pub day_tests : ℕ → Date → List Bool
day_tests i d = weekend_tests i ++ holiday_tests i d

abbrev pub reason_in : HolidayCalendar → ℕ → ℕ → ℕ
reason_in BdewMaKo k r = let i = year_start k + r in place_from 1 (day_tests i (date_in k r))

unfoldable pub reason : HolidayCalendar → ℕ → ℕ
reason cal i = let y = year_of i in reason_in cal y.0 y.1
