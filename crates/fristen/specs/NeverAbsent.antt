-- No due instant but that of `SameDayAt` is refused as Absent, which is refusal 6: the clock changes on Sundays, no
-- Sunday is a Werktag, and 12:00 is shown every day. The test of a day is any that no Sunday passes; what is counted in
-- hours and minutes needs none.
--   SundaysAreShut is_open        no Sunday, which is weekday 6, passes the test
--   WerktagShutsSundays           that is so of the day test of each holiday list
--   MarchSwitchIsShut             on the last Sunday of March, on which the clock changes, there is no Werktag
--   OctoberSwitchIsShut           on the last Sunday of October, on which it changes back, there is none
--   OpenDayShowsEachClock         so on a Werktag no local time is absent
-- Never Absent:
--   ContrlIsNeverAbsent           a CONTRL; ContrlChangeIsNeverAbsent   with a change day too
--   AddedHoursAreNeverAbsent      hours later
--   AperakStromIsNeverAbsent      the Strom APERAK on a UTILMD or ORDERS
--   NthWerktagIsNeverAbsent       a clock on the n-th Werktag after the receipt day: `next_werktag_at`, any other Strom
--                                 APERAK and the Gas APERAK of a follow-up process are defined by it
--   EndOfWerktagIsNeverAbsent     the end of such a Werktag: `deadline_at_werktage` and the Gas APERAK of an initial
--                                 process are defined by it, and it needs no shut Sunday
--   AperakGasIsNeverAbsent        the Gas APERAK, by its Prüfidentifikator
--   WerktagAtIsNeverAbsent EndOfWerktagShapeIsNeverAbsent SameDayIsNeverAbsent   the three other shapes
-- And the fourth:
--   SameDayAtIsAbsentIfUnshown    `SameDayAt` is Absent exactly if no clock shows its time on the receipt day
use Rattle.std.specs.Prelude.{ℕ, ◌≤◌, ◌≡◌, ◌≢◌, ◌↔◌, Bool, true, false, None, Err}
use Rattle.zaehlung.specs.Walk.{last}
use Rattle.datum.specs.Calendar.{first_year, weekday}
use Rattle.werktag.specs.declared.HolidayCalendar.{HolidayCalendar}
use Rattle.werktag.specs.Werktag.{is_werktag}
use Rattle.berlin.specs.declared.Moment.{Moment}
use Rattle.berlin.specs.declared.Clock.{Clock}
use Rattle.berlin.specs.Berlin.{last_sunday, berlin_at}
use Rattle.berlin.specs.Inside.{Proper, ProperClock}
use Rattle.fristen.specs.declared.ContrlAnlass.{ContrlAnlass}
use Rattle.fristen.specs.declared.FristShape.TheVariants.{WerktagAt, EndOfWerktag, SameDayAt, SameDay}
use Rattle.fristen.specs.declared.NoDue.TheVariants.{Absent}
use Rattle.fristen.specs.Fristen.{receipt_day, contrl_due_at, contrl_due_at_change, nth_werktag_at}
use Rattle.fristen.specs.Fristen.{end_of_werktag_after, add_hours, aperak_strom_due_at, aperak_gas_due_at}
use Rattle.fristen.specs.FristShape.{due_at_of}

abbrev pub SundaysAreShut : (ℕ → Bool) → Type 0
SundaysAreShut is_open = (day : ℕ) → weekday day ≡ 6 → is_open day ≡ false

abbrev pub WerktagShutsSundays : Type 0
WerktagShutsSundays = (calendar : HolidayCalendar) → SundaysAreShut (is_werktag calendar)

abbrev pub MarchSwitchIsShut : Type 0
MarchSwitchIsShut =
    (is_open : ℕ → Bool) → SundaysAreShut is_open → (year : ℕ) → first_year ≤ year →
    is_open (last_sunday year 3) ≡ false

abbrev pub OctoberSwitchIsShut : Type 0
OctoberSwitchIsShut =
    (is_open : ℕ → Bool) → SundaysAreShut is_open → (year : ℕ) → first_year ≤ year →
    is_open (last_sunday year 10) ≡ false

abbrev pub OpenDayShowsEachClock : Type 0
OpenDayShowsEachClock =
    (is_open : ℕ → Bool) → SundaysAreShut is_open → (day : ℕ) (clock : Clock) → day ≤ last → ProperClock clock →
    is_open day ≡ true → berlin_at day clock ≢ None

abbrev pub ContrlIsNeverAbsent : Type 0
ContrlIsNeverAbsent = (received : Moment) (anlass : ContrlAnlass) → contrl_due_at received anlass ≢ Err Absent

abbrev pub ContrlChangeIsNeverAbsent : Type 0
ContrlChangeIsNeverAbsent =
    (received : Moment) (anlass : ContrlAnlass) (change_day : ℕ) →
    contrl_due_at_change received anlass change_day ≢ Err Absent

abbrev pub AddedHoursAreNeverAbsent : Type 0
AddedHoursAreNeverAbsent = (from : Moment) (n : ℕ) → add_hours from n ≢ Err Absent

abbrev pub AperakStromIsNeverAbsent : Type 0
AperakStromIsNeverAbsent = (received : Moment) → aperak_strom_due_at received ≢ Err Absent

abbrev pub NthWerktagIsNeverAbsent : Type 0
NthWerktagIsNeverAbsent =
    (is_open : ℕ → Bool) → SundaysAreShut is_open → (received : Moment) → Proper received →
    (n : ℕ) (clock : Clock) → ProperClock clock → nth_werktag_at is_open received n clock ≢ Err Absent

abbrev pub EndOfWerktagIsNeverAbsent : Type 0
EndOfWerktagIsNeverAbsent =
    (is_open : ℕ → Bool) (received : Moment) (n : ℕ) → end_of_werktag_after is_open received n ≢ Err Absent

abbrev pub AperakGasIsNeverAbsent : Type 0
AperakGasIsNeverAbsent =
    (is_open : ℕ → Bool) → SundaysAreShut is_open → (received : Moment) → Proper received → (pid : ℕ) →
    aperak_gas_due_at is_open pid received ≢ Err Absent

abbrev pub WerktagAtIsNeverAbsent : Type 0
WerktagAtIsNeverAbsent =
    (is_open : ℕ → Bool) → SundaysAreShut is_open → (received : Moment) → Proper received →
    (n : ℕ) (clock : Clock) → ProperClock clock → due_at_of is_open (WerktagAt n clock) received ≢ Err Absent

abbrev pub EndOfWerktagShapeIsNeverAbsent : Type 0
EndOfWerktagShapeIsNeverAbsent =
    (is_open : ℕ → Bool) (n : ℕ) (received : Moment) → due_at_of is_open (EndOfWerktag n) received ≢ Err Absent

abbrev pub SameDayIsNeverAbsent : Type 0
SameDayIsNeverAbsent = (is_open : ℕ → Bool) (received : Moment) → due_at_of is_open SameDay received ≢ Err Absent

abbrev pub SameDayAtIsAbsentIfUnshown : Type 0
SameDayAtIsAbsentIfUnshown =
    (is_open : ℕ → Bool) → SundaysAreShut is_open → (received : Moment) → Proper received →
    (clock : Clock) → ProperClock clock →
    (due_at_of is_open (SameDayAt clock) received ≡ Err Absent) ↔ (berlin_at (receipt_day received) clock ≡ None)
