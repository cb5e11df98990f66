-- The list's definitions against values from outside: Easter Sundays of published tables (Physikalisch-Technische
-- Bundesanstalt; the earliest and the latest possible date among them), days whose holidays of 2026 are published, the
-- calendar's first and last Werktag, a day for each reason, and the feasts by Easter as built dates and as distances.
--   werktag_on y m d     = whether that date is a Werktag
--   reason_on y m d      = its reason
--   reason_built y m d   = its reason by built dates
--   reason_distant y m d = its reason by its distance from Easter
--   EasterSundays          Easter Sunday of twelve years
--   WerktageOf2026         Karfreitag, Ostermontag, Christi Himmelfahrt, Pfingstmontag, Fronleichnam, and Buß- und
--                          Bettag are none; the Tuesday after Easter and the Wednesdays a week before and after Buß-
--                          und Bettag are; a Saturday is none
--   EdgesOfWerktage        the calendar's first Werktag is 2 January 1996, its last 30 December 2899
--   ReasonOfEachHoliday    a weekday for each holiday of the list, but for Pfingstsonntag, which has none
--   ReasonThatGoesFirst    the Tuesday after Easter 2026, a Saturday, a Sunday; 8 March 2026 is a Sunday and Frauentag,
--                          24 May 2026 Pfingstsonntag, 26 December 2026 a Saturday and Weihnachten; 1 May 2008 is Tag
--                          der Arbeit and Christi Himmelfahrt
--   FeastsOf2026           Karfreitag, Ostermontag, Christi Himmelfahrt, Pfingsten and Fronleichnam
--   HimmelfahrtOf2008      Christi Himmelfahrt on 1 May
--   DistancesFromEaster    Karfreitag 2026, Easter Sunday and the Tuesday after it; Christi Himmelfahrt 2008
--   BuiltReasons           Karfreitag, the Tuesday after Easter, Pfingstsonntag and Fronleichnam 2026, and 1 May 2008
--   DistantReasons         the same days
use Rattle.std.specs.Prelude.{ℕ, ◌≡◌, Bool, true, false, [], ◌∷◌, map, pos, neg_ℤ}
use Rattle.datum.specs.Calendar.{days_before}
use Rattle.werktag.specs.declared.HolidayCalendar.TheVariants.{BdewMaKo}
use Rattle.werktag.specs.Easter.{easter_sunday}
use Rattle.werktag.specs.Werktag.{is_werktag}
use Rattle.werktag.specs.Reason.{reason}
use Rattle.werktag.specs.Built.{built_dates, distance, reason_by_built, reason_by_distance}
use Rattle.werktag.specs.EasterDay.{calendar_date}
use Rattle.werktag.specs.FeastDates.{built_date}

abbrev pub werktag_on : ℕ → ℕ → ℕ → Bool
werktag_on y m d = is_werktag BdewMaKo (days_before (calendar_date y m d))

abbrev pub reason_on : ℕ → ℕ → ℕ → ℕ
reason_on y m d = reason BdewMaKo (days_before (calendar_date y m d))

abbrev pub reason_built : ℕ → ℕ → ℕ → ℕ
reason_built y m d = reason_by_built (calendar_date y m d)

abbrev pub reason_distant : ℕ → ℕ → ℕ → ℕ
reason_distant y m d = reason_by_distance (calendar_date y m d)

abbrev pub EasterSundays : Type 0
EasterSundays =
    map easter_sunday (1996 ∷ 2000 ∷ 2008 ∷ 2019 ∷ 2026 ∷ 2038 ∷ 2049 ∷ 2100 ∷ 2285 ∷ 2353 ∷ 2500 ∷ 2899 ∷ [])
    ≡ calendar_date 1996 4 7 ∷ calendar_date 2000 4 23 ∷ calendar_date 2008 3 23 ∷ calendar_date 2019 4 21
    ∷ calendar_date 2026 4 5 ∷ calendar_date 2038 4 25 ∷ calendar_date 2049 4 18 ∷ calendar_date 2100 3 28
    ∷ calendar_date 2285 3 22 ∷ calendar_date 2353 3 22 ∷ calendar_date 2500 4 18 ∷ calendar_date 2899 4 19 ∷ []

abbrev pub WerktageOf2026 : Type 0
WerktageOf2026 =
    werktag_on 2026 4 3 ∷ werktag_on 2026 4 6 ∷ werktag_on 2026 5 14 ∷ werktag_on 2026 5 25 ∷ werktag_on 2026 6 4
    ∷ werktag_on 2026 11 18 ∷ werktag_on 2026 4 7 ∷ werktag_on 2026 11 11 ∷ werktag_on 2026 11 25
    ∷ werktag_on 2026 4 4 ∷ []
    ≡ false ∷ false ∷ false ∷ false ∷ false
    ∷ false ∷ true ∷ true ∷ true
    ∷ false ∷ []

abbrev pub EdgesOfWerktage : Type 0
EdgesOfWerktage =
    werktag_on 1996 1 1 ∷ werktag_on 1996 1 2 ∷ werktag_on 2899 12 30 ∷ werktag_on 2899 12 31 ∷ []
    ≡ false ∷ true ∷ true ∷ false ∷ []

abbrev pub ReasonOfEachHoliday : Type 0
ReasonOfEachHoliday =
    reason_on 2026 1 1 ∷ reason_on 2026 1 6 ∷ reason_on 2027 3 8 ∷ reason_on 2026 5 1 ∷ reason_on 2025 8 15
    ∷ reason_on 2027 9 20 ∷ reason_on 2025 10 3 ∷ reason_on 2025 10 31 ∷ reason_on 2027 11 1 ∷ reason_on 2026 12 24
    ∷ reason_on 2026 12 25 ∷ reason_on 2025 12 26 ∷ reason_on 2026 12 31 ∷ reason_on 2026 11 18 ∷ reason_on 2026 4 3
    ∷ reason_on 2026 4 6 ∷ reason_on 2026 5 14 ∷ reason_on 2026 5 25 ∷ reason_on 2026 6 4 ∷ []
    ≡ 3 ∷ 4 ∷ 5 ∷ 6 ∷ 7
    ∷ 8 ∷ 9 ∷ 10 ∷ 11 ∷ 12
    ∷ 13 ∷ 14 ∷ 15 ∷ 16 ∷ 17
    ∷ 18 ∷ 19 ∷ 21 ∷ 22 ∷ []

abbrev pub ReasonThatGoesFirst : Type 0
ReasonThatGoesFirst =
    reason_on 2026 4 7 ∷ reason_on 2026 4 4 ∷ reason_on 2026 4 5
    ∷ reason_on 2026 3 8 ∷ reason_on 2026 5 24 ∷ reason_on 2026 12 26 ∷ reason_on 2008 5 1 ∷ []
    ≡ 0 ∷ 1 ∷ 2
    ∷ 2 ∷ 2 ∷ 1 ∷ 6 ∷ []

abbrev pub FeastsOf2026 : Type 0
FeastsOf2026 =
    built_dates 2026
    ≡ calendar_date 2026 4 3 ∷ calendar_date 2026 4 6 ∷ calendar_date 2026 5 14
    ∷ calendar_date 2026 5 24 ∷ calendar_date 2026 5 25 ∷ calendar_date 2026 6 4 ∷ []

abbrev pub HimmelfahrtOf2008 : Type 0
HimmelfahrtOf2008 = built_date 2008 2 ≡ calendar_date 2008 5 1

abbrev pub DistancesFromEaster : Type 0
DistancesFromEaster =
    distance (calendar_date 2026 4 3) ∷ distance (calendar_date 2026 4 5) ∷ distance (calendar_date 2026 4 7)
    ∷ distance (calendar_date 2008 5 1) ∷ []
    ≡ neg_ℤ (pos 2) ∷ pos 0 ∷ pos 2
    ∷ pos 39 ∷ []

abbrev pub BuiltReasons : Type 0
BuiltReasons =
    reason_built 2026 4 3 ∷ reason_built 2026 4 7 ∷ reason_built 2026 5 24 ∷ reason_built 2026 6 4
    ∷ reason_built 2008 5 1 ∷ []
    ≡ 17 ∷ 0 ∷ 2 ∷ 22
    ∷ 6 ∷ []

abbrev pub DistantReasons : Type 0
DistantReasons =
    reason_distant 2026 4 3 ∷ reason_distant 2026 4 7 ∷ reason_distant 2026 5 24 ∷ reason_distant 2026 6 4
    ∷ reason_distant 2008 5 1 ∷ []
    ≡ 17 ∷ 0 ∷ 2 ∷ 22
    ∷ 6 ∷ []
