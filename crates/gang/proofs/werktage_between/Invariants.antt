-- The invariant: the Werktage so far, and those that are left.
-- Assumes nothing.
use Prim.Native.Nat.{◌+◌, ◌-◌, ◌≤◌}
use mathlib.Core.Path.{◌≡◌}
use Rattle.zaehlung.specs.Walk.{between}
use Rattle.werktag.specs.Werktag.{is_werktag}
use Rattle.gang.proofs.werktage_between.Given as goal

abbrev pub invariant-loop-cal : goal.invariant-loop-cal
invariant-loop-cal l = (between (is_werktag l.cal) l.fn.from l.to ≡ l.count + between (is_werktag l.cal) l.at l.to)
    × (l.at ≤ l.to) × (l.count ≤ l.at)

abbrev pub decreases-loop-cal : goal.decreases-loop-cal
decreases-loop-cal l = l.to - l.at
