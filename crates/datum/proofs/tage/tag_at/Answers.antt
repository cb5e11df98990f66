-- `datum::tage::tag_at`: the answer that the check does not find by itself.
-- Assumes nothing.
use borrow.Author.Rules.{rules}
use Rattle.datum.proofs.Rules.{parts_are}
use Rattle.datum.proofs.tage.tag_at.Goals as goal

pub invariant_of-result : goal.invariant_of-result
invariant_of-result c = (search (rules, parts_are), c.requires)
