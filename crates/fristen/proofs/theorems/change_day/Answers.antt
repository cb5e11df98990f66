use Rattle.fristen.proofs.Formatumstellung.{refused_when, when_refused, moved, stays, on_change_day, days_away}
use Rattle.fristen.proofs.theorems.change_day.Goals as goal

pub returns-clause-refused : goal.returns-clause-refused
returns-clause-refused c = λ m a d. (refused_when m a d, when_refused m a d)

pub returns-clause-moved : goal.returns-clause-moved
returns-clause-moved c = moved

pub returns-clause-stays : goal.returns-clause-stays
returns-clause-stays c = stays

pub returns-clause-on_the_day : goal.returns-clause-on_the_day
returns-clause-on_the_day c = on_change_day

pub returns-clause-days_away : goal.returns-clause-days_away
returns-clause-days_away c = days_away
