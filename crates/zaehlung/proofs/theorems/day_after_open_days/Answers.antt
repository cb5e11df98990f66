use Rattle.zaehlung.proofs.Laws.{w_iff, w_out_iff, w_none, w_inside, w_add}
use Rattle.zaehlung.proofs.OnOrAfter.{w_open, w_shut}
use Rattle.zaehlung.proofs.theorems.day_after_open_days.Goals as goal

pub returns-clause-w : goal.returns-clause-w
returns-clause-w c = w_iff

pub returns-clause-leaves : goal.returns-clause-leaves
returns-clause-leaves c = w_out_iff

pub returns-clause-none : goal.returns-clause-none
returns-clause-none c = w_none

pub returns-clause-inside : goal.returns-clause-inside
returns-clause-inside c = w_inside

pub returns-clause-open : goal.returns-clause-open
returns-clause-open c = w_open

pub returns-clause-shut : goal.returns-clause-shut
returns-clause-shut c = w_shut

pub returns-clause-elsewhere : goal.returns-clause-elsewhere
returns-clause-elsewhere c = λ w d n e m h p g q. w_add w e m g q d n h p
