use Rattle.berlin.proofs.Zeit.{before_midnight, before_clock}
use Rattle.berlin.proofs.theorems.comparisons.Goals as goal

pub returns-clause-midnight : goal.returns-clause-midnight
returns-clause-midnight c = before_midnight

pub returns-clause-full_second : goal.returns-clause-full_second
returns-clause-full_second c = before_clock
