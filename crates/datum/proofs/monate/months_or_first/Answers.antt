-- `datum::monate::months_or_first`: the answers that the check does not find by itself.
-- Assumes nothing.
use borrow.Author.Rules.{rules}
use mathlib.Core.Path.{ap, ◌∙◌}
use Rattle.datum.specs.Monate.{M}
use Rattle.datum.proofs.MonthStepRules.{month_rules, m_dated}
use Rattle.datum.proofs.monate.months_or_first.Goals as goal

pub months_or_first_date-requires : goal.months_or_first_date-requires
months_or_first_date-requires c = search (rules, month_rules)

pub returns : goal.returns
returns c =
    m_dated _ _ c.day.invariant.0 c.day.invariant.1 _ _ _ c.months_or_first_date.ensures.0 c.to_step.ensures
    ∙ ap (M c.args.n) c.day.view_is
