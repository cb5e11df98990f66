use Rattle.datum.proofs.OutsideValues.{edges, februaries, shifts}
use Rattle.datum.proofs.theorems.outside_values.Goals as goal

pub returns-clause-edges : goal.returns-clause-edges
returns-clause-edges c = edges

pub returns-clause-februaries : goal.returns-clause-februaries
returns-clause-februaries c = februaries

pub returns-clause-shifts : goal.returns-clause-shifts
returns-clause-shifts c = shifts
