-- `datum::tage::tag_of`: the answer that the check does not find by itself.
-- Assumes nothing.
use mathlib.Core.Path.{sym, ◌∙◌}
use Rattle.datum.proofs.TagRules.{tag_of_rule}
use Rattle.datum.proofs.tage.tag_of.Goals as goal

pub invariant_of-result : goal.invariant_of-result
invariant_of-result c = tag_of_rule c.args.date c.in_ok-index.index (sym c.index_of.ensures ∙ c.in_ok-index.was)
