-- `datum::tage::later_in_month`: the sum that the rule set of its attribute does not find, by itself.
-- Assumes nothing.
use borrow.Author.Rules.{rules}
use Rattle.datum.proofs.TagRules.{later_rules}
use Rattle.datum.proofs.tage.later_in_month.Goals as goal

pub overflow_add-result-2 : goal.overflow_add-result-2
overflow_add-result-2 c = search (rules, later_rules)
