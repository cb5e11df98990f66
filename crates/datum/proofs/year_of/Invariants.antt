-- `datum::year_of` meets its contract. The first loop leaves a year that starts by the day, the second one whose next
-- starts after it; the guess needs no proof.
-- Assumes nothing.
use Prim.Native.Nat.{◌≤◌, ◌-◌}
use Rattle.datum.specs.Calendar.{year_start}
use Rattle.datum.proofs.year_of.Given as goal

abbrev pub invariant-loop-k : goal.invariant-loop-k
invariant-loop-k l = l.k ≤ 903

abbrev pub decreases-loop-k : goal.decreases-loop-k
decreases-loop-k l = l.k

abbrev pub invariant-loop-k-2 : goal.invariant-loop-k-2
invariant-loop-k-2 l = (l.k ≤ 903) × (year_start l.k ≤ l.index)

abbrev pub decreases-loop-k-2 : goal.decreases-loop-k-2
decreases-loop-k-2 l = 904 - l.k
