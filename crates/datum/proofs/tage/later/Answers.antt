-- `datum::tage::later`: the answer that the check does not find by itself.
-- Assumes nothing.
use Rattle.datum.proofs.TagRules.{day_of_fits}
use Rattle.datum.proofs.tage.later.Goals as goal

pub overflow_add-tag-inside : goal.overflow_add-tag-inside
overflow_add-tag-inside c = day_of_fits _ _ _ _ c.tag.invariant c.tag.view_is c.requires.0 c.requires.1
