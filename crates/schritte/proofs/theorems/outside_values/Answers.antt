use mathlib.Core.Path.{refl}
use Rattle.zaehlung.specs.Blocks.{at}
use Rattle.datum.specs.Calendar.{is_leap, year_len}
use Rattle.schritte.specs.Tested.{days_tested}
use Rattle.schritte.proofs.theorems.outside_values.Goals as goal

pub returns : goal.returns
unfolding days_tested at year_len is_leap
returns c = record { tested = refl }
