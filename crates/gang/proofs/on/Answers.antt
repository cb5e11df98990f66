-- `gang::on`: the answer that the check does not find by itself.
-- Assumes nothing.
use borrow.Author.Rules.{rules}
use Rattle.gang.proofs.Rules.{stand_rules}
use Rattle.gang.proofs.on.Goals as goal

pub overflow_add-tag-inside : goal.overflow_add-tag-inside
overflow_add-tag-inside c = search (rules, stand_rules, c.tag.invariant)
