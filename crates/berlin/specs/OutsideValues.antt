-- The definitions against values from outside: the switches of the IANA time zone database for Europe/Berlin, and the
-- instants that it gives. Days are given by their index: 11045 is 29 March 2026, 11255 is 25 October 2026, 11323, 11504
-- and 11596 are 1 January, 1 July and 1 October 2027.
--   SwitchValues      when the clock changes in 1996, 2000, 2026 (29 March and 25 October, 01:00 UTC) and 2037
--   ClockValues       29 March 02:30 is absent, 03:30 and 01:30 are 01:30 and 00:30 UTC; 25 October 02:30, which is
--                     repeated, is 00:30 UTC, and 03:30 is 02:30 UTC
--   BeginningValues   the Gas day 29 March begins at 04:00 UTC; in Strom 1 January 2027 begins on 31 December at 23:00
--                     UTC, and 1 July on 30 June at 22:00 UTC; the Gas day 1 October begins at 04:00 UTC; the last
--                     instant of 31 December 2026
--   BegunDayValues    which day begins on 31 December 2026 at 23:00 UTC; a nanosecond later none; at 00:00 UTC of that
--                     day none, in either Sparte; on 1 October 2027 at 04:00 UTC the Gas day
--   BerlinDayValues   31 January 2026 23:30 UTC is 1 February in Berlin; 11 hours before, it is 31 January
use Rattle.std.specs.Prelude.{◌≡◌, [], ◌∷◌, Some, None}
use Rattle.berlin.specs.declared.Sparte.TheVariants.{Strom, Gas}
use Rattle.berlin.specs.Berlin.{moment_of, summer_from, summer_to, berlin_day, berlin_at, end_of_day_berlin}
use Rattle.berlin.specs.Berlin.{tagesbeginn_utc, tag_des_beginns}

abbrev pub SwitchValues : Type 0
SwitchValues =
    summer_from 1996 ∷ summer_to 1996 ∷ summer_from 2000 ∷ summer_to 2000 ∷ summer_from 2026 ∷ summer_to 2026 ∷
    summer_from 2037 ∷ summer_to 2037 ∷ []
    ≡ 828234000 ∷ 846378000 ∷ 954032400 ∷ 972781200 ∷ 1774746000 ∷ 1792890000 ∷ 2121901200 ∷ 2140045200 ∷ []

abbrev pub ClockValues : Type 0
ClockValues =
    berlin_at 11045 (record { second = 9000; nanos = 0 }) ∷ berlin_at 11045 (record { second = 12600; nanos = 7 }) ∷
    berlin_at 11045 (record { second = 5400; nanos = 0 })
    ∷ berlin_at 11255 (record { second = 9000; nanos = 0 }) ∷ berlin_at 11255 (record { second = 12600; nanos = 0 })
    ∷ []
    ≡ None ∷ Some (moment_of 1774747800 7) ∷ Some (moment_of 1774744200 0)
    ∷ Some (moment_of 1792888200 0) ∷ Some (moment_of 1792895400 0) ∷ []

abbrev pub BeginningValues : Type 0
BeginningValues =
    tagesbeginn_utc 11045 Gas ∷ tagesbeginn_utc 11323 Strom ∷ tagesbeginn_utc 11504 Strom ∷ tagesbeginn_utc 11596 Gas ∷
    end_of_day_berlin 11322 ∷ []
    ≡ moment_of 1774756800 0 ∷ moment_of 1798758000 0 ∷ moment_of 1814392800 0 ∷ moment_of 1822363200 0 ∷
    moment_of 1798757999 999999999 ∷ []

abbrev pub BegunDayValues : Type 0
BegunDayValues =
    tag_des_beginns (moment_of 1798758000 0) Strom ∷ tag_des_beginns (moment_of 1798758000 1) Strom ∷
    tag_des_beginns (moment_of 1798675200 0) Strom
    ∷ tag_des_beginns (moment_of 1798675200 0) Gas ∷ tag_des_beginns (moment_of 1822363200 0) Gas ∷ []
    ≡ Some 11323 ∷ None ∷ None
    ∷ None ∷ Some 11596 ∷ []

abbrev pub BerlinDayValues : Type 0
BerlinDayValues = berlin_day 1769902200 ∷ berlin_day 1769862600 ∷ [] ≡ 10989 ∷ 10988 ∷ []
