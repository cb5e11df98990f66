-- `datum::year_of` meets its contract, by the invariants beside it.
-- Assumes nothing.
use Rattle.datum.proofs.Rules.{year_rules}
use borrow.Author.Rules.{rules}
use Rattle.datum.proofs.year_of.Goals as goal

pub overflow_sub-k : goal.overflow_sub-k
overflow_sub-k c = search (rules, year_rules)

pub loop-k-smaller : goal.loop-k-smaller
loop-k-smaller c = search (rules, year_rules)

pub loop-k-2-preserved : goal.loop-k-2-preserved
loop-k-2-preserved c = search (rules, year_rules)

pub returns : goal.returns
returns c = search (rules, year_rules)
