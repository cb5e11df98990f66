-- `datum::monate::to_step`: the answer that the check does not find by itself.
-- Assumes nothing.
use borrow.Author.Rules.{rules}
use Rattle.datum.proofs.MonthStepRules.{to_step_on}
use Rattle.datum.proofs.monate.to_step.Goals as goal

pub invariant_of-result : goal.invariant_of-result
invariant_of-result c = search (rules, to_step_on, c.in_ok-date.was)
