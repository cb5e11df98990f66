use Rattle.fristen.proofs.Formatumstellung.{in_spring, in_autumn, untouched, refused}
use Rattle.fristen.proofs.theorems.formatumstellung.Goals as goal

pub returns-clause-spring : goal.returns-clause-spring
returns-clause-spring c = λ m a o p. in_spring m p a o

pub returns-clause-autumn : goal.returns-clause-autumn
returns-clause-autumn c = λ m a o p. in_autumn m p a o

pub returns-clause-neither : goal.returns-clause-neither
returns-clause-neither c = λ m a o p. untouched m p a o

pub returns-clause-refused : goal.returns-clause-refused
returns-clause-refused c = refused
