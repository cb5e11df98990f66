-- `jahresindex::werktage_before_year` meets its contract: the table's rule at one entry.
-- Assumes nothing.
use Rattle.jahresindex.proofs.Rules.{is_before}
use Rattle.jahresindex.proofs.werktage_before_year.Goals as goal

pub returns : goal.returns
returns c = is_before c.args.cal c.args.k c.requires
