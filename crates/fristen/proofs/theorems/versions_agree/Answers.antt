use mathlib.Core.Path.{◌∙◌}
use Rattle.fristen.proofs.Formatumstellung.{april, october, agree, agree_inside, stays_in_other, untouched}
use Rattle.fristen.proofs.theorems.versions_agree.Goals as goal

pub returns-clause-april : goal.returns-clause-april
returns-clause-april c = λ m a o p e. agree m p a o e (april m p a o e)

pub returns-clause-october : goal.returns-clause-october
returns-clause-october c = λ m a o p e. agree m p a o e (october m p a o e)

pub returns-clause-april_in_spring : goal.returns-clause-april_in_spring
returns-clause-april_in_spring c = λ m a o p e. agree_inside m p a o e (april m p a o e)

pub returns-clause-october_in_autumn : goal.returns-clause-october_in_autumn
returns-clause-october_in_autumn c = λ m a o p e. agree_inside m p a o e (october m p a o e)

pub returns-clause-april_in_autumn : goal.returns-clause-april_in_autumn
returns-clause-april_in_autumn c = λ m a o p e. stays_in_other m p a o e (april m p a o e)

pub returns-clause-october_in_spring : goal.returns-clause-october_in_spring
returns-clause-october_in_spring c = λ m a o p e. stays_in_other m p a o e (october m p a o e)

pub returns-clause-april_in_neither : goal.returns-clause-april_in_neither
returns-clause-april_in_neither c = λ m a o p e s f. (agree m p a o e (april m p a o e)).1 f ∙ untouched m p a o e s f

pub returns-clause-october_in_neither : goal.returns-clause-october_in_neither
returns-clause-october_in_neither c = λ m a o p e s f.
    (agree m p a o e (october m p a o e)).1 s ∙ untouched m p a o e s f
