-- The laws of runs that specs/RunsOfYears.antt states, by how a pair opens a run behind another.
-- Assumes nothing.
use Prim.Native.Nat.{ℕ, zero, suc}
use mathlib.Core.Bool.{true, false, not}
use mathlib.Core.List.{[], ◌∷◌}
use mathlib.Core.Path.{◌≡◌, refl, sym}
use native.Mathlib.Omega.{arith}
use lib.Dec.{eqb}
use lib.ListN.{replicate}
use borrow.Author.Tests.{eq-eqb, ne_eqb, eqb-false}
use Rattle.zaehlung.proofs.Tests.{and_no}
use Rattle.zaehlung.proofs.Every.{split}
use Rattle.zaehlung.proofs.Count.{bit_small}
use Rattle.portfolio.specs.Runs.{opens, openings}
use Rattle.portfolio.specs.RunsOfYears.{NoPairNoRun, OneYearIsOneRun, OutOfRangeParts, NewYearTurns}
use Rattle.portfolio.specs.RunsOfYears.{NoMoreRunsThanPairs}

opens_same : (z : ℕ) → opens z z ≡ false
unfolding opens
opens_same z = rw (eq-eqb z z refl) (and_no (not (eqb z 0)))

-- behind a pair of another year as behind none
opens_other : (u z : ℕ) → (u ≡ z → ⊥) → opens u z ≡ opens 0 z
unfolding opens
opens_other u z h =
    split (eqb z 0)
    (λ t. rw t)
    (λ t. rw (t, ne_eqb u z h, ne_eqb 0 z (λ e. omega (arith, eqb-false z 0 t))))

opens_first : (z : ℕ) → (z ≡ 0 → ⊥) → opens 0 z ≡ true
unfolding opens
opens_first z h = rw (ne_eqb z 0 h, ne_eqb 0 z (λ e. h (sym e)))

pub no_runs : NoPairNoRun
unfolding openings
no_runs y = refl

-- behind a pair of their own year they open none
go_on : (n z : ℕ) → openings z (replicate n z) ≡ 0
unfolding openings
go_on zero z = refl
go_on (suc n) z = rw (opens_same z) (omega (arith, go_on n z))

pub one_run : OneYearIsOneRun
unfolding openings
one_run n z h = rw (opens_first z h) (omega (arith, go_on n z))

pub run_parts : OutOfRangeParts
unfolding openings opens
run_parts y [] vs = refl
run_parts y (u ∷ us) vs = omega (arith, run_parts u us vs)

-- u is the last pair before the change, z the first behind it
pub run_turns : NewYearTurns
unfolding openings
run_turns y u z [] vs h = rw (opens_other u z h) (omega arith)
run_turns y u z (x ∷ us) vs h = omega (arith, run_turns x u z us vs h)

pub runs_most : NoMoreRunsThanPairs
unfolding openings
runs_most y [] = omega arith
runs_most y (z ∷ zs) = omega (arith, bit_small (opens y z), runs_most z zs)
