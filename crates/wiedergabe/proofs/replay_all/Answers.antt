-- Each call leads on by one case, or to the end.
use Rattle.std.proofs.Common.{rules, arith, of_calls}
use Rattle.wiedergabe.proofs.Leads.{leads_on, leads_end, leads_break, leads_all}
use Rattle.wiedergabe.proofs.replay_all.Goals as goal

pub returns-in_default-clause-counts : goal.returns-in_default-clause-counts
returns-in_default-clause-counts g c =
    leads_end c.loop-total.invariant.2 c.in_ok-case.ensures (search rules) (omega arith)

pub returns-then-eq-clause-counts : goal.returns-then-eq-clause-counts
returns-then-eq-clause-counts g c =
    leads_break c.loop-total.invariant.2 c.in_ok-case.ensures c.in-Some.is (search rules) (search rules) (omega arith)

pub returns-clause-counts : goal.returns-clause-counts
returns-clause-counts g c = leads_all c.loop-total.invariant.2 (omega arith)

pub loop-total-preserved : goal.loop-total-preserved
loop-total-preserved g c = (
  search of_calls,
  omega arith,
  leads_on c.loop-total.invariant.2 c.in_ok-case.ensures c.in-Some.is (search rules) (search rules),
)
