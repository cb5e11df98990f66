-- `datum::year_start` meets its contract: the closed form.
-- Assumes nothing.
use Rattle.datum.proofs.Rules.{start_is}
use borrow.Author.Rules.{rules}
use Rattle.datum.proofs.year_start.Goals as goal

pub returns : goal.returns
returns c = (start_is c.args.k, search rules)
