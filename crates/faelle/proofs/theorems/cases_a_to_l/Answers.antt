use Rattle.faelle.proofs.Cases.{cases}
use Rattle.faelle.proofs.theorems.cases_a_to_l.Goals as goal

pub returns : goal.returns
returns c = record { table = cases }
