-- `datum::date_parts` meets its contract: the year, the month in it and the day in that are the parts of the
-- definition.
-- Assumes nothing.
use Rattle.datum.proofs.Rules.{date_rules}
use borrow.Author.Rules.{rules}
use Rattle.datum.proofs.date_parts.Goals as goal

pub month_of-month-requires : goal.month_of-month-requires
month_of-month-requires c = search (rules, date_rules)

pub overflow_add-result-2 : goal.overflow_add-result-2
overflow_add-result-2 c = search (rules, date_rules)

pub overflow_cast-result-3 : goal.overflow_cast-result-3
overflow_cast-result-3 c = search (rules, date_rules)

pub returns : goal.returns
returns c = search (rules, date_rules)
