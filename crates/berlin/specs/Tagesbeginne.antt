-- `tagesbeginn_utc` and `tag_des_beginns` undo each other, in Strom, whose days begin at 00:00, and in Gas, whose days
-- begin at 06:00.
--   GasBeginningIsShown     a Gas day begins at the earliest instant that shows 06:00 of it: that is never absent. A
--                           Strom day begins at its midnight, by definition
--   BeginningBeginsItsDay   the day that the beginning of a day begins is that day
--   BegunDayHasBeginning    an instant that begins a day is the beginning of that day, to the nanosecond
use Rattle.std.specs.Prelude.{ℕ, ◌≤◌, ◌≡◌, Some}
use Rattle.zaehlung.specs.Walk.{last}
use Rattle.berlin.specs.declared.Moment.{Moment}
use Rattle.berlin.specs.declared.Sparte.{Sparte}
use Rattle.berlin.specs.declared.Sparte.TheVariants.{Gas}
use Rattle.berlin.specs.Berlin.{o_clock, tagesbeginn_utc, tag_des_beginns}
use Rattle.berlin.specs.LocalTimes.{Earliest}

abbrev pub GasBeginningIsShown : Type 0
GasBeginningIsShown = (day : ℕ) → day ≤ last → Earliest day (o_clock 6) (tagesbeginn_utc day Gas)

abbrev pub BeginningBeginsItsDay : Type 0
BeginningBeginsItsDay =
    (day : ℕ) → day ≤ last → (sparte : Sparte) → tag_des_beginns (tagesbeginn_utc day sparte) sparte ≡ Some day

abbrev pub BegunDayHasBeginning : Type 0
BegunDayHasBeginning =
    (moment : Moment) (sparte : Sparte) (day : ℕ) → tag_des_beginns moment sparte ≡ Some day →
    moment ≡ tagesbeginn_utc day sparte
