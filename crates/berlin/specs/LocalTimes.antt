-- Local times in Berlin: which instant `berlin_at` gives for a time of day, when it gives none, and when two instants
-- show one time. A day is its index in the calendar, from 1 January 1996 to 31 December 2899. The clock goes forward on
-- the last Sunday of March and back on that of October (Directive 2000/84/EC).
--   Earliest day clock moment   the moment is the earliest instant at which the Berlin clock shows that time of the day
--   Repeated day clock          two instants show it
--   LimitsAreBerlinDays         an instant lies inside the limits exactly if its Berlin day is one of the calendar
--   FoundIsEarliest             what is found for a time is the earliest instant that shows it, and that is found
--   NotFoundIsNeverShown        none is found exactly if no instant shows the time
--   AbsentInMarch               none is found exactly from 02:00 to before 03:00 of the last Sunday of March
--   RepeatedInOctober           two show it exactly from 02:00 to before 03:00 of the last Sunday of October
--   MarchSwitchIsSunday         the day in March on which the clock changes is a Sunday, weekday 6
--   OctoberSwitchIsSunday       the day in October on which it changes is a Sunday too
use Rattle.std.specs.Prelude.{ℕ, ◌+◌, ◌<◌, ◌≤◌, ◌≡◌, ◌↔◌, Some, None}
use Rattle.zaehlung.specs.Walk.{last}
use Rattle.datum.specs.Calendar.{first_year, date_of, weekday}
use Rattle.berlin.specs.declared.Moment.{Moment}
use Rattle.berlin.specs.declared.Clock.{Clock}
use Rattle.berlin.specs.Berlin.{calendar_start, day_seconds, hours, day_start, seconds_of, first_second, last_second}
use Rattle.berlin.specs.Berlin.{last_sunday, berlin_clock, local_of, berlin_at}
use Rattle.berlin.specs.Inside.{ProperClock}

pub record Earliest (day : ℕ) (clock : Clock) (moment : Moment) : Type 0 where
  pub shown : berlin_clock (seconds_of moment) ≡ day_start day + clock.second
  pub least : (second : ℕ) → berlin_clock second ≡ day_start day + clock.second → seconds_of moment ≤ second
  pub second_lt : moment.second < day_seconds
  pub nanos : moment.nanos ≡ clock.nanos

pub record Repeated (day : ℕ) (clock : Clock) : Type 0 where
  pub earlier : ℕ
  pub later : ℕ
  pub apart : earlier < later
  pub earlier_shown : berlin_clock earlier ≡ day_start day + clock.second
  pub later_shown : berlin_clock later ≡ day_start day + clock.second

abbrev pub LimitsAreBerlinDays : Type 0
LimitsAreBerlinDays =
    (second : ℕ) →
    ((first_second ≤ second) × (second ≤ last_second))
    ↔ ((calendar_start ≤ (local_of second).berlinday) × ((local_of second).berlinday ≤ calendar_start + last))

abbrev pub FoundIsEarliest : Type 0
FoundIsEarliest =
    (day : ℕ) (clock : Clock) → day ≤ last → ProperClock clock → (moment : Moment) →
    (berlin_at day clock ≡ Some moment) ↔ Earliest day clock moment

abbrev pub NotFoundIsNeverShown : Type 0
NotFoundIsNeverShown =
    (day : ℕ) (clock : Clock) → day ≤ last → ProperClock clock →
    (berlin_at day clock ≡ None) ↔ ((second : ℕ) → berlin_clock second ≡ day_start day + clock.second → ⊥)

abbrev pub AbsentInMarch : Type 0
AbsentInMarch =
    (day : ℕ) (clock : Clock) → day ≤ last → ProperClock clock →
    (berlin_at day clock ≡ None)
    ↔ ((day ≡ last_sunday (date_of day).year 3) × (hours 2 ≤ clock.second) × (clock.second < hours 3))

abbrev pub RepeatedInOctober : Type 0
RepeatedInOctober =
    (day : ℕ) (clock : Clock) → day ≤ last → ProperClock clock →
    Repeated day clock
    ↔ ((day ≡ last_sunday (date_of day).year 10) × (hours 2 ≤ clock.second) × (clock.second < hours 3))

abbrev pub MarchSwitchIsSunday : Type 0
MarchSwitchIsSunday = (year : ℕ) → first_year ≤ year → weekday (last_sunday year 3) ≡ 6

abbrev pub OctoberSwitchIsSunday : Type 0
OctoberSwitchIsSunday = (year : ℕ) → first_year ≤ year → weekday (last_sunday year 10) ≡ 6
