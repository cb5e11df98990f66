-- `datum::tage::into_month_before`: the answers that the check does not find by itself.
-- Assumes nothing.
use borrow.Author.Rules.{rules}
use Rattle.datum.proofs.TagRules.{earlier_rules, tag_back_in_year, tag_back_over_year}
use Rattle.datum.proofs.tage.into_month_before.Goals as goal

pub overflow_sub-result-then-month-gt1 : goal.overflow_sub-result-then-month-gt1
overflow_sub-result-then-month-gt1 c = search (rules, earlier_rules)

pub invariant_of-result : goal.invariant_of-result
invariant_of-result c =
    tag_back_in_year _ _ _ _ c.tag.invariant c.tag.view_is c.requires.near.0 c.requires.near.1 c.requires.before_month _
    c.is_leap.result c.if-month-gt1.true c.is_leap.ensures c.days_in_month-length.ensures.0

pub overflow_sub-result-2 : goal.overflow_sub-result-2
overflow_sub-result-2 c = search (rules, earlier_rules)

pub invariant_of-result-2 : goal.invariant_of-result-2
invariant_of-result-2 c =
    tag_back_over_year _ _ _ _ c.tag.invariant c.tag.view_is c.requires.near.0 c.requires.near.1 c.requires.before_month
    c.if-month-gt1.false
