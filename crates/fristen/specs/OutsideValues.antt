-- The definitions against values from outside: the instants that the IANA time zone database gives for Europe/Berlin,
-- and the due instants that the AHB and the GPKE give by their words. The holidays are those of the BDEW.
--   at_second s = the instant at second s; due_at_second s = what is due then
--   ContrlWindowValues   received on 31 March 2026 at 11:59:59, due at 17:59:59; at 12:00:00, on 2 April at 00:00; the
--                        same on 30 September; received on 1 October at 17:59:59 and 18:00:00, due on the 2nd at 00:00
--   ContrlValues         Wednesday 9 September 2026 09:00 UTC: 6 hours, 15 and 45 minutes; Friday 10 January 2025 23:30
--                        UTC, in Berlin a Saturday: 6 hours; an hour before, 15 minutes
--   ChangeWindowValues   change day Saturday 6 June 2026, day 11114: received on the 5th at 11:59:59, due at 17:59:59;
--                        at 12:00:00, and on the 6th at 17:59:59 and 18:00:00, on the 7th at 00:00; received on 30
--                        September at 12:00:00, due at 18:00:00
--   SwitchSundayValues   change day Sunday 29 March 2026, day 11045, and 25 October, day 11255: the window has 29 hours
--                        and 31, from Saturday 18:00 to Monday 00:00; a second before each end and at it
--   ChangeEdgeValues     received at the calendar's first instant, due at 06:00: no day is before its first day, none
--                        after its last; with its second day the window opens on the first at 18:00
--   AperakStromValues    Monday 6 January 2025 10:00 UTC: 45 minutes; Saturday 11 January: Sunday 12:00; that Sunday:
--                        45 minutes; the last instant of the calendar: outside
--   WerktagDueValues     Monday 6 January 2025 10:00 UTC: Tuesday 12:00; Friday 10 January 14:00, the clock 11:00:
--                        Monday 13 January, also for the 0th Werktag; 5 Werktage from Monday 6 January: the end of
--                        Monday 13 January; none: the end of that Monday
--   GasProzessValues     44001, Anmeldung NN, opens a process; 44051, Ende MSB, is a follow-up
--   AperakGasValues      Monday 6 January 2025 10:00 UTC: 44001 has the end of Thursday 9 January; 44051 Tuesday 12:00
--   AddedHoursValues     6 hours; none from the calendar's last instant, and one; the most that 32 bits hold
--   ShapeValues          `SameDayAt` 12:00, received on 9 January 2026 at 12:00: 12 January 12:00; a second earlier:
--                        the same day; Sunday 29 March 2026 01:00, the clock 02:30: absent; the end of Friday 9 January
use Rattle.std.specs.Prelude.{ℕ, ◌≡◌, [], ◌∷◌, Result, Ok, Err}
use Rattle.werktag.specs.declared.HolidayCalendar.TheVariants.{BdewMaKo}
use Rattle.werktag.specs.Werktag.{is_werktag}
use Rattle.berlin.specs.declared.Moment.{Moment}
use Rattle.berlin.specs.Berlin.{o_clock, moment_of}
use Rattle.fristen.specs.declared.ContrlAnlass.TheVariants.{Regelfall, StromUtilmdOderOrders, GasAlocat}
use Rattle.fristen.specs.declared.FristShape.TheVariants.{SameDayAt, SameDay}
use Rattle.fristen.specs.declared.NoDue.{NoDue}
use Rattle.fristen.specs.declared.NoDue.TheVariants.{Absent, Outside}
use Rattle.fristen.specs.declared.GasProzess.TheVariants.{Initialprozess, Folgeprozess}
use Rattle.fristen.specs.Fristen.{noon, contrl_due_at, contrl_due_at_change, nth_werktag_at, next_werktag_at}
use Rattle.fristen.specs.Fristen.{deadline_at_werktage, add_hours, aperak_strom_due_at, aperak_strom_allgemein_due_at}
use Rattle.fristen.specs.Fristen.{gas_prozess, aperak_gas_due_at}
use Rattle.fristen.specs.FristShape.{due_at_of}

abbrev pub at_second : ℕ → Moment
at_second s = moment_of s 0

abbrev pub due_at_second : ℕ → Result Moment NoDue
due_at_second s = Ok (at_second s)

abbrev pub ContrlWindowValues : Type 0
ContrlWindowValues =
    contrl_due_at (at_second 1774951199) Regelfall ∷ contrl_due_at (at_second 1774951200) Regelfall ∷
    contrl_due_at (at_second 1790762399) Regelfall ∷ contrl_due_at (at_second 1790762400) Regelfall ∷
    contrl_due_at (at_second 1790870399) Regelfall ∷ contrl_due_at (at_second 1790870400) Regelfall ∷ []
    ≡ due_at_second 1774972799 ∷ due_at_second 1775080800 ∷ due_at_second 1790783999 ∷ due_at_second 1790892000 ∷
    due_at_second 1790892000 ∷ due_at_second 1790892000 ∷ []

abbrev pub ContrlValues : Type 0
ContrlValues =
    contrl_due_at (at_second 1788944400) Regelfall ∷ contrl_due_at (at_second 1788944400) StromUtilmdOderOrders ∷
    contrl_due_at (at_second 1788944400) GasAlocat ∷ contrl_due_at (at_second 1736551800) StromUtilmdOderOrders ∷
    contrl_due_at (at_second 1736548200) StromUtilmdOderOrders ∷ []
    ≡ due_at_second 1788966000 ∷ due_at_second 1788945300 ∷ due_at_second 1788947100 ∷ due_at_second 1736573400 ∷
    due_at_second 1736549100 ∷ []

abbrev pub ChangeWindowValues : Type 0
ChangeWindowValues =
    contrl_due_at_change (at_second 1780653599) Regelfall 11114 ∷
    contrl_due_at_change (at_second 1780653600) Regelfall 11114 ∷
    contrl_due_at_change (at_second 1780761599) Regelfall 11114 ∷
    contrl_due_at_change (at_second 1780761600) Regelfall 11114 ∷
    contrl_due_at_change (at_second 1790762400) Regelfall 11114 ∷ []
    ≡ due_at_second 1780675199 ∷ due_at_second 1780783200 ∷ due_at_second 1780783200 ∷ due_at_second 1780783200 ∷
    due_at_second 1790784000 ∷ []

abbrev pub SwitchSundayValues : Type 0
SwitchSundayValues =
    contrl_due_at_change (at_second 1774695599) Regelfall 11045 ∷
    contrl_due_at_change (at_second 1774695600) Regelfall 11045 ∷
    contrl_due_at_change (at_second 1774799999) Regelfall 11045 ∷
    contrl_due_at_change (at_second 1774800000) Regelfall 11045 ∷
    contrl_due_at_change (at_second 1792835999) Regelfall 11255 ∷
    contrl_due_at_change (at_second 1792836000) Regelfall 11255 ∷
    contrl_due_at_change (at_second 1792947599) Regelfall 11255 ∷
    contrl_due_at_change (at_second 1792947600) Regelfall 11255 ∷ []
    ≡ due_at_second 1774717199 ∷ due_at_second 1774821600 ∷ due_at_second 1774821600 ∷ due_at_second 1774821600 ∷
    due_at_second 1792857599 ∷ due_at_second 1792969200 ∷ due_at_second 1792969200 ∷ due_at_second 1792969200 ∷ []

abbrev pub ChangeEdgeValues : Type 0
ChangeEdgeValues =
    contrl_due_at_change (at_second 820450800) Regelfall 0 ∷
    contrl_due_at_change (at_second 820450800) Regelfall 1 ∷
    contrl_due_at_change (at_second 820493999) Regelfall 1 ∷
    contrl_due_at_change (at_second 820494000) Regelfall 1 ∷
    contrl_due_at_change (at_second 820450800) Regelfall 330178 ∷
    contrl_due_at_change (at_second 820450800) Regelfall 330179 ∷ []
    ≡ Err Outside ∷ due_at_second 820472400 ∷ due_at_second 820515599 ∷ due_at_second 820623600 ∷
    due_at_second 820472400 ∷ Err Outside ∷ []

abbrev pub AperakStromValues : Type 0
AperakStromValues =
    aperak_strom_due_at (at_second 1736157600) ∷ aperak_strom_due_at (at_second 1736586000) ∷
    aperak_strom_due_at (at_second 1736672400) ∷ aperak_strom_due_at (at_second 29348002799) ∷ []
    ≡ due_at_second 1736160300 ∷ due_at_second 1736679600 ∷ due_at_second 1736675100 ∷ Err Outside ∷ []

abbrev pub WerktagDueValues : Type 0
WerktagDueValues =
    aperak_strom_allgemein_due_at (is_werktag BdewMaKo) (at_second 1736157600) ∷
    next_werktag_at (is_werktag BdewMaKo) (at_second 1736514000) (o_clock 11) ∷
    nth_werktag_at (is_werktag BdewMaKo) (at_second 1736514000) 0 (o_clock 11) ∷
    deadline_at_werktage (is_werktag BdewMaKo) (at_second 1736121600) 5 ∷
    deadline_at_werktage (is_werktag BdewMaKo) (at_second 1736121600) 0 ∷ []
    ≡ due_at_second 1736247600 ∷ due_at_second 1736762400 ∷ due_at_second 1736762400 ∷
    Ok (moment_of 1736809199 999999999) ∷ Ok (moment_of 1736204399 999999999) ∷ []

abbrev pub GasProzessValues : Type 0
GasProzessValues = gas_prozess 44001 ∷ gas_prozess 44051 ∷ [] ≡ Initialprozess ∷ Folgeprozess ∷ []

abbrev pub AperakGasValues : Type 0
AperakGasValues =
    aperak_gas_due_at (is_werktag BdewMaKo) 44001 (at_second 1736157600) ∷
    aperak_gas_due_at (is_werktag BdewMaKo) 44051 (at_second 1736157600) ∷ []
    ≡ Ok (moment_of 1736463599 999999999) ∷ due_at_second 1736247600 ∷ []

abbrev pub AddedHoursValues : Type 0
AddedHoursValues =
    add_hours (at_second 1788944400) 6 ∷ add_hours (at_second 29348002799) 0 ∷ add_hours (at_second 29348002799) 1 ∷
    add_hours (at_second 820450800) 4294967295 ∷ []
    ≡ due_at_second 1788966000 ∷ due_at_second 29348002799 ∷ Err Outside ∷ Err Outside ∷ []

abbrev pub ShapeValues : Type 0
ShapeValues =
    due_at_of (is_werktag BdewMaKo) (SameDayAt noon) (at_second 1767956400) ∷
    due_at_of (is_werktag BdewMaKo) (SameDayAt noon) (at_second 1767956399) ∷
    due_at_of (is_werktag BdewMaKo) (SameDayAt (record { second = 9000; nanos = 0 })) (at_second 1774742400) ∷
    due_at_of (is_werktag BdewMaKo) SameDay (at_second 1767956400) ∷ []
    ≡ due_at_second 1768215600 ∷ due_at_second 1767956400 ∷ Err Absent ∷ Ok (moment_of 1767999599 999999999) ∷ []
