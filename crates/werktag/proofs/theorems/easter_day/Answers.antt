use mathlib.Core.Path.{refl}
use Rattle.werktag.specs.Easter.{easter_sunday}
use Rattle.werktag.proofs.Easter.{easter_valid, easter_on_sunday, easter_from, easter_to}
use Rattle.werktag.proofs.theorems.easter_day.Goals as goal

pub returns-clause-date : goal.returns-clause-date
returns-clause-date c = λ y a b. easter_valid y (easter_sunday y) a b refl

pub returns-clause-sunday : goal.returns-clause-sunday
returns-clause-sunday c = easter_on_sunday

pub returns-clause-from_march_22 : goal.returns-clause-from_march_22
returns-clause-from_march_22 c = easter_from

pub returns-clause-to_april_25 : goal.returns-clause-to_april_25
returns-clause-to_april_25 c = easter_to
