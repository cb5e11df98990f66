use mathlib.Core.Path.{refl, sym}
use native.Mathlib.Omega.{arith}
use native.Mathlib.Decide.{dec_lt}
use Rattle.datum.specs.Calendar.{day_of_year}
use Rattle.schritte.specs.TestedDays.{TestedAtMost732, NoneTestedUnlessLater}
use Rattle.schritte.proofs.TestedRules.{day_most, tested_both, tested_not}
use Rattle.schritte.proofs.theorems.days_tested.Goals as goal

most : TestedAtMost732
most a b h g =
    elim (dec_lt a b) [
      | yes l ↦ omega (arith, tested_both a b (day_of_year a) (day_of_year b) l refl refl, day_most a h, day_most b g)
      | no l ↦ omega (arith, tested_not a b (omega arith))
    ]

none : NoneTestedUnlessLater
none a b = (
  λ e.
      elim (dec_lt a b) [
        | yes l ↦ absurd (omega (arith, tested_both a b (day_of_year a) (day_of_year b) l refl refl))
        | no l ↦ omega arith
      ],
  λ l. sym (tested_not a b l),
)

pub returns-clause-most : goal.returns-clause-most
returns-clause-most c = most

pub returns-clause-none : goal.returns-clause-none
returns-clause-none c = none
