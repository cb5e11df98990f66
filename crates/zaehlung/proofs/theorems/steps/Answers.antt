use Rattle.zaehlung.proofs.Laws.{add_iff, sub_iff, add_out_iff, sub_out_iff, add_none, sub_none}
use Rattle.zaehlung.proofs.Laws.{add_inside, sub_inside, add_add, sub_add}
use Rattle.zaehlung.proofs.theorems.steps.Goals as goal

pub returns-clause-add : goal.returns-clause-add
returns-clause-add c = add_iff

pub returns-clause-sub : goal.returns-clause-sub
returns-clause-sub c = sub_iff

pub returns-clause-add_leaves : goal.returns-clause-add_leaves
returns-clause-add_leaves c = add_out_iff

pub returns-clause-sub_leaves : goal.returns-clause-sub_leaves
returns-clause-sub_leaves c = sub_out_iff

pub returns-clause-add_none : goal.returns-clause-add_none
returns-clause-add_none c = add_none

pub returns-clause-sub_none : goal.returns-clause-sub_none
returns-clause-sub_none c = sub_none

pub returns-clause-add_inside : goal.returns-clause-add_inside
returns-clause-add_inside c = add_inside

pub returns-clause-sub_inside : goal.returns-clause-sub_inside
returns-clause-sub_inside c = sub_inside

pub returns-clause-add_elsewhere : goal.returns-clause-add_elsewhere
returns-clause-add_elsewhere c = λ w d n e m h p g q. add_add w e m g q d n h p

pub returns-clause-sub_elsewhere : goal.returns-clause-sub_elsewhere
returns-clause-sub_elsewhere c = λ w d n e m h p g q. sub_add w e m g q d n h p
