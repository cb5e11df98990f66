use Prim.Native.Nat.{ℕ, ◌+◌, ◌-◌, ◌/◌, ◌≤◌}
use mathlib.Core.Path.{◌≡◌, refl}
use native.Mathlib.Omega.{arith}
use native.Mathlib.Decide.{dec_le, dec_lt}
use Rattle.datum.proofs.Dates.{index_date}
use Rattle.berlin.specs.Berlin.{last_second, summer_from, summer_to, year_at}
use Rattle.berlin.proofs.SummerTime.{summer_in, before_summer, after_summer}
use Rattle.berlin.proofs.theorems.summer_time.Goals as goal

-- the year that the definition looks at is one of the calendar
year_inside : (s : ℕ) → s ≤ last_second → (1996 ≤ year_at s) × (year_at s ≤ 2899)
unfolding year_at
year_inside s h =
    let i : ℕ = (s + 3600) / 86400 - 9496 in
    let d = index_date i (omega arith) in
    (d.0.from, d.0.to)

pub returns-clause-summer : goal.returns-clause-summer
returns-clause-summer c = λ y s from to h g.
    let e : 1996 + (y - 1996) ≡ y = omega arith in
    summer_in (y - 1996) s (omega arith) (rw e h) (rw e g)

pub returns-clause-other : goal.returns-clause-other
returns-clause-other c = λ s from to n.
    let y : ℕ = year_at s in
    elim (dec_le (summer_from y) s) [
      | no a ↦ before_summer s y refl (omega arith)
      | yes a ↦
          elim (dec_lt s (summer_to y)) [
            | no b ↦ after_summer s y refl a (omega arith)
            | yes b ↦ let d = year_inside s to in absurd (n y d.0 d.1 a b)
          ]
    ]
