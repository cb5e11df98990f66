-- Which days are closed, and by what reason. A day is any number of days from 1 January 1996 on.
--   rule day place         whether the rule of that place in the list holds of the day. Places count from 0 on: the 13
--                          fixed days, Buß- und Bettag, the six feasts that move with Easter
--   ClosedBy day place     that rule holds, the day is no weekend, and no rule before it holds
--   ZeroIsWerktag          the reason is 0 exactly if the day is a Werktag, for every calendar
--   WeekendIsShut          no Saturday and no Sunday is a Werktag, for every calendar
--   WeekdayIsOpenUnlessListed   any other day is one exactly if it isn't in the list
--   OneIsSaturday          the reason is 1 exactly on a Saturday
--   TwoIsSunday            it is 2 exactly on a Sunday
--   HolidayIsFirstRule     it is 3 + place exactly if the day is closed by the rule of that place
-- So a weekend goes before a holiday, and of two holidays on one date the lower number counts. Which rule it is:
--   RuleOfFixedDay         of the first 13 places, that the date is the fixed day of that place
--   RuleOfBussUndBettag    of place 13, that it is the Wednesday from 16 to 22 November
--   RuleOfFeast            of the six places from 14 on, that it lies at that place's offset from Easter Sunday
-- And of all reasons:
--   TwentyIsNeverGiven     of a day of the calendar, it is never that of Pfingstsonntag, which is a Sunday
--   ReasonIsAtMost22       it is at most 22, for every calendar
use Rattle.std.specs.Prelude.{ℕ, ◌+◌, ◌≤◌, ◌<◌, ◌≡◌, ◌≢◌, ◌↔◌, Bool, true, false, not, slice_index_or}
use Rattle.zaehlung.specs.Walk.{last}
use Rattle.datum.specs.Calendar.{date_of, weekday}
use Rattle.werktag.specs.declared.HolidayCalendar.{HolidayCalendar}
use Rattle.werktag.specs.declared.HolidayCalendar.TheVariants.{BdewMaKo}
use Rattle.werktag.specs.Werktag.{fixed_days, is_day, is_buss_und_bettag, is_feast, is_listed, is_werktag}
use Rattle.werktag.specs.Reason.{holiday_tests, reason}
use Rattle.werktag.specs.FeastDates.{offset}

abbrev pub rule : ℕ → ℕ → Bool
rule day place = slice_index_or (holiday_tests day (date_of day)) place false

pub record ClosedBy (day place : ℕ) : Type 0 where
  pub own : rule day place ≡ true
  pub no_weekend : weekday day < 5
  pub no_earlier : (earlier : ℕ) → earlier < place → rule day earlier ≡ false

abbrev pub ZeroIsWerktag : Type 0
ZeroIsWerktag =
    (calendar : HolidayCalendar) (day : ℕ) → (reason calendar day ≡ 0) ↔ (is_werktag calendar day ≡ true)

abbrev pub WeekendIsShut : Type 0
WeekendIsShut = (calendar : HolidayCalendar) (day : ℕ) → 5 ≤ weekday day → is_werktag calendar day ≡ false

abbrev pub WeekdayIsOpenUnlessListed : Type 0
WeekdayIsOpenUnlessListed =
    (day : ℕ) → weekday day < 5 → is_werktag BdewMaKo day ≡ not (is_listed day (date_of day))

abbrev pub OneIsSaturday : Type 0
OneIsSaturday = (day : ℕ) → (reason BdewMaKo day ≡ 1) ↔ (weekday day ≡ 5)

abbrev pub TwoIsSunday : Type 0
TwoIsSunday = (day : ℕ) → (reason BdewMaKo day ≡ 2) ↔ (weekday day ≡ 6)

abbrev pub HolidayIsFirstRule : Type 0
HolidayIsFirstRule = (day place : ℕ) → (reason BdewMaKo day ≡ 3 + place) ↔ ClosedBy day place

abbrev pub RuleOfFixedDay : Type 0
RuleOfFixedDay =
    (day place : ℕ) → place < 13 →
    let date = date_of day in
    rule day place ≡ is_day date.month date.day (slice_index_or fixed_days place (0, 0))

abbrev pub RuleOfBussUndBettag : Type 0
RuleOfBussUndBettag =
    (day : ℕ) →
    let date = date_of day in
    rule day 13 ≡ is_buss_und_bettag date.month date.day (weekday day)

abbrev pub RuleOfFeast : Type 0
RuleOfFeast =
    (day place : ℕ) → place < 6 → rule day (14 + place) ≡ is_feast day (date_of day).year (offset place)

abbrev pub TwentyIsNeverGiven : Type 0
TwentyIsNeverGiven = (day : ℕ) → day ≤ last → reason BdewMaKo day ≢ 20

abbrev pub ReasonIsAtMost22 : Type 0
ReasonIsAtMost22 = (calendar : HolidayCalendar) (day : ℕ) → reason calendar day ≤ 22
