use Prim.Native.Nat.{suc}
use native.Mathlib.Omega.{arith}
use Rattle.zaehlung.specs.Counts.{AddUndoesBetween}
use Rattle.zaehlung.proofs.Count.{count_open, count_mono}
use Rattle.zaehlung.proofs.Laws.{add_iff, between_count, between_later, add_between}
use Rattle.zaehlung.proofs.theorems.counts.Goals as goal

-- the open day itself is counted, so the count is a step
between_add : AddUndoesBetween
between_add w d e h g o =
    let c = between_count w d e (omega arith) in
    let m = count_mono w (suc d) e h in
    (add_iff w d _ e (omega arith) (omega (arith, count_open w e o))).1 (o, omega arith, g)

pub returns-clause-difference : goal.returns-clause-difference
returns-clause-difference c = between_count

pub returns-clause-unless_later : goal.returns-clause-unless_later
returns-clause-unless_later c = between_later

pub returns-clause-add_between : goal.returns-clause-add_between
returns-clause-add_between c = add_between

pub returns-clause-between_add : goal.returns-clause-between_add
returns-clause-between_add c = between_add
