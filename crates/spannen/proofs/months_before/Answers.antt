use Rattle.spannen.proofs.SpansMonths.{month_iff}
use Rattle.spannen.proofs.months_before.Goals as goal

pub returns : goal.returns
returns c = record { exact = λ t a n x f ht ha. month_iff t a n x f ht ha }
