use Prim.Native.Nat.{ℕ, ◌<◌}
use mathlib.Core.Path.{◌≡◌}
use Rattle.datum.specs.Calendar.{weekday}
use Rattle.werktag.specs.Werktag.{is_werktag}
use Rattle.zaehlung.specs.Walk.{bit}
use Prim.Native.Nat.{◌-◌}
use Rattle.gang.proofs.next_werktag.Given as goal

abbrev pub invariant-loop-cal : goal.invariant-loop-cal
invariant-loop-cal g l = (weekday l.at < 5)
    × ((m : ℕ) → 0 < m → g.R.Richtung.step (is_werktag l.cal) l.fn.stand m
    ≡ g.R.Richtung.step (is_werktag l.cal) l.at (m - bit (is_werktag l.cal l.at)))

abbrev pub decreases-loop-cal : goal.decreases-loop-cal
decreases-loop-cal g l = g.R.Richtung.left l.at
