-- `jahre::number_before` meets its contract. The invariant: the days counted so far, and those of the rest of the list,
-- are those of the whole list.
-- Assumes nothing.
use Prim.Native.Nat.{◌+◌, ◌≤◌}
use mathlib.Core.Path.{◌≡◌}
use lib.ListN.{drop}
use Rattle.zaehlung.specs.Lists.{below}
use Rattle.jahre.proofs.number_before.Given as goal

abbrev pub invariant-loop-day : goal.invariant-loop-day
invariant-loop-day l = (l.before + below (drop l.day-index l.days) l.n ≡ below l.days l.n) × (l.before ≤ l.day-index)
