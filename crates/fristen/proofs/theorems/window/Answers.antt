use Rattle.fristen.proofs.Formatumstellung.{inside_shown, shown_inside, shut, days, apart, by_spring, by_autumn}
use Rattle.fristen.proofs.Formatumstellung.{by_none}
use Rattle.fristen.proofs.theorems.window.Goals as goal

pub returns-clause-shown : goal.returns-clause-shown
returns-clause-shown c = λ a b h k o. (inside_shown a b h k o, shown_inside a b h k o)

pub returns-clause-other_days : goal.returns-clause-other_days
returns-clause-other_days c = shut

pub returns-clause-days : goal.returns-clause-days
returns-clause-days c = days

pub returns-clause-apart : goal.returns-clause-apart
returns-clause-apart c = apart

pub returns-clause-tolerance_in_spring : goal.returns-clause-tolerance_in_spring
returns-clause-tolerance_in_spring c = by_spring

pub returns-clause-tolerance_in_autumn : goal.returns-clause-tolerance_in_autumn
returns-clause-tolerance_in_autumn c = by_autumn

pub returns-clause-tolerance_in_neither : goal.returns-clause-tolerance_in_neither
returns-clause-tolerance_in_neither c = by_none
