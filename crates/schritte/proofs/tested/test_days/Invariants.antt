-- The invariant: the Werktage among the days tested, up to the day at which the walk stands.
-- Assumes nothing.
use Prim.Native.Nat.{◌+◌, ◌≤◌}
use mathlib.Core.Path.{◌≡◌}
use Rattle.zaehlung.specs.Walk.{among}
use Rattle.werktag.specs.Werktag.{is_werktag}
use Rattle.schritte.proofs.tested.test_days.Given as goal

abbrev pub invariant-loop : goal.invariant-loop
invariant-loop l = (l.werktage ≡ among (is_werktag l.cal) l.fn.first l.tested) × (l.at ≡ l.counter)
    × (l.at + 1 ≡ l.fn.first + l.tested) × (l.werktage ≤ l.tested) × (l.counter ≤ l.day)
