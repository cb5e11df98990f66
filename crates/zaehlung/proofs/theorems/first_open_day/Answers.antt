use Rattle.zaehlung.proofs.Laws.{next_iff, next_out_iff, next_inside}
use Rattle.zaehlung.proofs.OnOrAfter.{next_open, next_shut}
use Rattle.zaehlung.proofs.theorems.first_open_day.Goals as goal

pub returns-clause-next : goal.returns-clause-next
returns-clause-next c = next_iff

pub returns-clause-leaves : goal.returns-clause-leaves
returns-clause-leaves c = next_out_iff

pub returns-clause-inside : goal.returns-clause-inside
returns-clause-inside c = next_inside

pub returns-clause-open : goal.returns-clause-open
returns-clause-open c = next_open

pub returns-clause-shut : goal.returns-clause-shut
returns-clause-shut c = next_shut
