-- `datum::tage::new_year`: the answers that the check does not find by itself.
-- Assumes nothing.
use borrow.Author.Rules.{rules}
use mathlib.Core.Path.{sym, ap, ◌∙◌}
use Rattle.datum.specs.Calendar.{year_of}
use Rattle.datum.proofs.TagRules.{year_rules, new_year}
use Rattle.datum.proofs.tage.new_year.Goals as goal

pub overflow_sub-result : goal.overflow_sub-result
overflow_sub-result c = search (rules, year_rules)

pub invariant_of-result : goal.invariant_of-result
invariant_of-result c =
    new_year _ _ c.tag.invariant.0 c.tag.invariant.1 _
    (c.year_day.ensures.1 ∙ ap (λ i. (year_of i).1) (sym c.tag.view_is))
