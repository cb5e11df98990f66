-- `datum::monate::months_earlier` meets its contract: its calls are those of the definition. The date of a day of the
-- calendar is one of the range, and so is what a shift of it reaches.
-- Assumes nothing.
use borrow.Author.Rules.{rules}
use Rattle.datum.proofs.MonthStepRules.{month_rules}
use Rattle.datum.proofs.monate.months_earlier.Goals as goal

pub to_step-requires : goal.to_step-requires
to_step-requires c = search (rules, month_rules)
