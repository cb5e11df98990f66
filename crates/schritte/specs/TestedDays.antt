-- The days that a count of Werktage tests: for each of its two dates, those from 1 January up to and including it.
--   TestedAtMost732        never over 732, for any two days of the calendar
--   NoneTestedUnlessLater  none exactly if the second day isn't later
use Rattle.std.specs.Prelude.{ℕ, ◌≤◌, ◌≡◌, ◌↔◌}
use Rattle.zaehlung.specs.Walk.{last}
use Rattle.schritte.specs.Tested.{days_tested}

abbrev pub TestedAtMost732 : Type 0
TestedAtMost732 = (from to : ℕ) → from ≤ last → to ≤ last → days_tested from to ≤ 732

abbrev pub NoneTestedUnlessLater : Type 0
NoneTestedUnlessLater = (from to : ℕ) → (days_tested from to ≡ 0) ↔ (to ≤ from)
