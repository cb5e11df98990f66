-- `antwortsatz::numbered_reply` meets its contract: where `reply` refuses, the slice is left as it was.
-- Assumes nothing.
use borrow.Author.Rules.{rules}
use Rattle.antwortsatz.proofs.Rules.{numbered_rules}
use Rattle.antwortsatz.proofs.numbered_reply.Goals as goal

pub returns-then-refusal-ne0 : goal.returns-then-refusal-ne0
returns-then-refusal-ne0 c = search (rules, numbered_rules)
