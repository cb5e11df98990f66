-- `jahre::year_numbers` meets its contract.
-- Assumes nothing.
use borrow.Author.Rules.{rules}
use Rattle.jahre.proofs.Rules.{fields_usual}
use Rattle.jahre.proofs.year_numbers.Goals as goal

pub invariant_of-result : goal.invariant_of-result
invariant_of-result c =
    fields_usual c.args.k _ _ (search rules) (search rules) _ _ (search rules) (search rules) (search rules)
