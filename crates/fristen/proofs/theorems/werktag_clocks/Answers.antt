use Rattle.fristen.proofs.NeverAbsent.{sunday_shut, switches_shut, werktag_shown}
use Rattle.fristen.proofs.theorems.werktag_clocks.Goals as goal

pub returns-clause-sundays : goal.returns-clause-sundays
returns-clause-sundays c = sunday_shut

pub returns-clause-march : goal.returns-clause-march
returns-clause-march c = λ w shut y h. (switches_shut w shut y h).0

pub returns-clause-october : goal.returns-clause-october
returns-clause-october c = λ w shut y h. (switches_shut w shut y h).1

pub returns-clause-shown : goal.returns-clause-shown
returns-clause-shown c = werktag_shown
