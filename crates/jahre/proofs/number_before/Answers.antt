-- `jahre::number_before` meets its contract, by the invariant beside it.
-- Assumes nothing.
use borrow.Author.Rules.{rules}
use Rattle.jahre.proofs.Rules.{number_rules}
use Rattle.jahre.proofs.number_before.Goals as goal

pub loop-day-preserved : goal.loop-day-preserved
loop-day-preserved c = search (rules, number_rules)

pub returns : goal.returns
returns c = search (rules, number_rules)
