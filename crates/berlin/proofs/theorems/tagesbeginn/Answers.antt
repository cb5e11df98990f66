use Prim.Native.Nat.{ℕ, ◌≤◌}
use mathlib.Core.Path.{◌≡◌, refl, sym}
use native.Mathlib.Omega.{arith}
use Rattle.std.specs.Prelude.{Some}
use Rattle.std.proofs.lemmas.Grind.{common_steps}
use Rattle.zaehlung.specs.Walk.{last}
use Rattle.berlin.specs.declared.Moment.{Moment}
use Rattle.berlin.specs.declared.Sparte.{Sparte}
use Rattle.berlin.specs.declared.Sparte.TheVariants.{Strom, Gas}
use Rattle.berlin.specs.Berlin.{seconds_of, berlin_day, berlin_date, tagesbeginn_utc, tag_des_beginns}
use Rattle.berlin.proofs.Proper.{midnight_earliest, gas_earliest, begins_it}
use Rattle.berlin.proofs.theorems.tagesbeginn.Goals as goal

-- a beginning lies in its day
in_its_day : (i : ℕ) → i ≤ last → (sp : Sparte) → berlin_day (seconds_of (tagesbeginn_utc i sp)) ≡ i
unfolding tagesbeginn_utc
in_its_day i h Strom = let e = midnight_earliest i h in omega (arith, e.shown)
in_its_day i h Gas = let e = gas_earliest i h in omega (arith, e.shown)

begins :
    (m b : Moment) (i : ℕ) (sp : Sparte) → i ≡ berlin_date m → b ≡ tagesbeginn_utc i sp → b ≡ m →
    tag_des_beginns m sp ≡ Some i
unfolding tag_des_beginns
begins m b i sp e p q = grind (arith, common_steps)

pub returns-clause-gas_shown : goal.returns-clause-gas_shown
returns-clause-gas_shown c = gas_earliest

pub returns-clause-day_of_beginning : goal.returns-clause-day_of_beginning
returns-clause-day_of_beginning c = λ i h sp.
    begins (tagesbeginn_utc i sp) (tagesbeginn_utc i sp) i sp (sym (in_its_day i h sp)) refl refl

pub returns-clause-beginning_of_day : goal.returns-clause-beginning_of_day
returns-clause-beginning_of_day c = λ m sp i e. (begins_it m sp i e).1
