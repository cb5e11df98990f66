-- The invariant: from here the walk reaches what it reaches from the start.
-- Assumes nothing.
use Prim.Native.Nat.{◌-◌, ◌≤◌}
use mathlib.Core.Path.{◌≡◌}
use Rattle.werktag.specs.Werktag.{is_werktag}
use Rattle.gang.proofs.nth_werktag.Given as goal

abbrev pub invariant-loop : goal.invariant-loop
invariant-loop g l = (l.counter ≤ l.n) × (g.R.Richtung.step (is_werktag l.cal) l.fn.from l.fn.n
    ≡ g.R.Richtung.step (is_werktag l.cal) l.at (l.n - l.counter))
