-- Summer time by the rule of Directive 2000/84/EC: Berlin is two hours ahead of UTC from the last Sunday of March 01:00
-- UTC to the last Sunday of October 01:00 UTC, and one hour at any other time. Years are those of the calendar, 1996 to
-- 2899.
--   SummerTimeIsTwoHours   the offset is two hours from a year's one switch on and before its other
--   OtherTimeIsOneHour     and one hour at each instant inside the limits that lies in no year's summer time
use Rattle.std.specs.Prelude.{ℕ, ◌<◌, ◌≤◌, ◌≡◌}
use Rattle.datum.specs.Calendar.{first_year, last_year}
use Rattle.berlin.specs.Berlin.{hours, first_second, last_second, summer_from, summer_to, offset_at}

abbrev pub SummerTimeIsTwoHours : Type 0
SummerTimeIsTwoHours =
    (year second : ℕ) → first_year ≤ year → year ≤ last_year → summer_from year ≤ second →
    second < summer_to year → offset_at second ≡ hours 2

abbrev pub OtherTimeIsOneHour : Type 0
OtherTimeIsOneHour =
    (second : ℕ) → first_second ≤ second → second ≤ last_second →
    ((year : ℕ) → first_year ≤ year → year ≤ last_year → summer_from year ≤ second → second < summer_to year → ⊥) →
    offset_at second ≡ hours 1
