-- `datum::monate::months_or_first_date`: the answers that the check does not find by itself.
-- Assumes nothing.
use borrow.Author.Rules.{rules}
use Rattle.datum.proofs.MonthStepRules.{date_shift_rules}
use Rattle.datum.proofs.monate.months_or_first_date.Goals as goal

pub add_months-requires-2 : goal.add_months-requires-2
add_months-requires-2 c = search (rules, date_shift_rules, c.in_ok-target.was)

pub returns : goal.returns
returns c = search (rules, date_shift_rules, c.in_ok-target.was)
