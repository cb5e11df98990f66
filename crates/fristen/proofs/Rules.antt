-- By its Berlin date an instant lies in the window of 1 April, in that of 1 October, or in none. i is a day, o an
-- instant and `at` its Berlin day.
--   change_inside eve_inside    both days of the window are days of the calendar
--   on_the_day on_the_eve elsewhere    the tolerance of version one, by the date
-- Assumes nothing.
use Prim.Native.Nat.{ℕ, suc, ◌+◌, ◌-◌, ◌≤◌, ◌<◌}
use mathlib.Core.Bool.{true, false}
use mathlib.Core.Logic.{◌⊎◌, inl, inr, ⊎_elim}
use mathlib.Core.Path.{◌≡◌, refl, sym, ap, ◌∙◌}
use native.Mathlib.Omega.{arith}
use native.Mathlib.Decide.{dec_le, dec_lt}
use Rattle.std.proofs.lemmas.Grind.{common_steps}
use Rattle.zaehlung.specs.Walk.{last}
use Rattle.datum.specs.declared.Date.{Date}
use Rattle.datum.specs.Calendar.{is_date, date_of}
use Rattle.datum.proofs.Dates.{valid_is, date_index, index_date}
use Rattle.berlin.specs.declared.Moment.{Moment}
use Rattle.berlin.specs.Berlin.{berlin_date}
use Rattle.berlin.specs.Inside.{Proper}
use Rattle.berlin.proofs.Proper.{day_le}
use Rattle.fristen.specs.Fristen.{day_on, toleranz, formatumstellung_toleranz}
use Rattle.fristen.specs.ByDate.{is_change_day, is_eve}
use Rattle.fristen.specs.Windows.{spring_window, autumn_window, WindowDays}
use Rattle.fristen.proofs.Formatumstellung.{shut, days, on, dates, by_none, spring_only, autumn_only}

change_parts : (d : Date) → is_change_day d ≡ true → (d.day ≡ 1) × ((d.month ≡ 4) ⊎ (d.month ≡ 10))
change_parts d e = grind (arith, common_steps)

eve_parts : (d : Date) → is_eve d ≡ true → ((d.day ≡ 31) × (d.month ≡ 3)) ⊎ ((d.day ≡ 30) × (d.month ≡ 9))
eve_parts d e = grind (arith, common_steps)

abbrev d : ℕ → Date
d i = date_of i

abbrev y : ℕ → ℕ
y i = (d i).year

module _ (i : ℕ) (h : i ≤ last) where
  from : 1996 ≤ y i
  from = (index_date i h).0.from

  to : y i ≤ 2899
  to = (index_date i h).0.to

  g : WindowDays (y i)
  g = days (y i) from to

  named : (m n : ℕ) → (d i).month ≡ m → (d i).day ≡ n → day_on (y i) m n ≡ i
  named m n a b = rw (sym a, sym b) (index_date i h).1

  change_day : is_change_day (d i) ≡ true → (day_on (y i) 4 1 ≡ i) ⊎ (day_on (y i) 10 1 ≡ i)
  change_day e =
      let p = change_parts (d i) e in
      ⊎_elim (λ q. inl (named 4 1 q p.0)) (λ q. inr (named 10 1 q p.0)) p.1

  eve : is_eve (d i) ≡ true → (day_on (y i) 3 31 ≡ i) ⊎ (day_on (y i) 9 30 ≡ i)
  eve e = ⊎_elim (λ q. inl (named 3 31 q.1 q.0)) (λ q. inr (named 9 30 q.1 q.0)) (eve_parts (d i) e)

  pub change_inside : is_change_day (d i) ≡ true → (1 ≤ i) × (i + 1 ≤ last)
  change_inside e =
      ⊎_elim (λ q. (omega (arith, g), omega (arith, g))) (λ q. (omega (arith, g), omega (arith, g))) (change_day e)

  pub eve_inside : is_eve (d i) ≡ true → i + 2 ≤ last
  eve_inside e = ⊎_elim (λ q. omega (arith, g)) (λ q. omega (arith, g)) (eve e)

  dated : (m n : ℕ) → is_date (on (y i) m n) ≡ true → day_on (y i) m n ≡ i → d i ≡ on (y i) m n
  dated m n t q = sym (ap date_of q) ∙ date_index _ (valid_is _ t)

  -- off both days of a window, the second of which is the first of the month k
  off :
      (m n k : ℕ) → is_date (on (y i) m n) ≡ true → is_eve (on (y i) m n) ≡ true → is_date (on (y i) k 1) ≡ true →
      is_change_day (on (y i) k 1) ≡ true → day_on (y i) k 1 ≡ suc (day_on (y i) m n) → is_change_day (d i) ≡ false →
      is_eve (d i) ≡ false → (suc (day_on (y i) k 1) ≤ i) ⊎ (i < day_on (y i) m n)
  off m n k t u v w q e f =
      elim (dec_lt i (day_on (y i) m n)) [
        | yes a ↦ inr a
        | no a ↦
            elim (dec_lt (day_on (y i) k 1) i) [
              | yes b ↦ inl b
              | no b ↦
                  elim (dec_le (day_on (y i) k 1) i) [
                    | yes c ↦ let z = ap is_change_day (dated k 1 v (omega arith)) in cc
                    | no c ↦ let z = ap is_eve (dated m n t (omega arith)) in cc
                  ]
            ]
      ]

same_window : (o : Moment) (a b c e : ℕ) → a ≡ c → b ≡ e → toleranz a b o ≡ toleranz c e o
same_window o a b c e p q = rw (p, q) refl

module _ (o : Moment) (p : Proper o) where
  abbrev at : ℕ
  at = berlin_date o

  inside : at ≤ last
  inside = day_le o p

  spring_off : (suc (day_on (y at) 4 1) ≤ at) ⊎ (at < day_on (y at) 3 31) → spring_window (y at) o ≡ false
  spring_off q =
      let g = g at inside in
      shut (day_on (y at) 3 31) (day_on (y at) 4 2) (omega (arith, g)) (omega (arith, g)) o p (rw g.april q)

  autumn_off : (suc (day_on (y at) 10 1) ≤ at) ⊎ (at < day_on (y at) 9 30) → autumn_window (y at) o ≡ false
  autumn_off q =
      let g = g at inside in
      shut (day_on (y at) 9 30) (day_on (y at) 10 2) (omega (arith, g)) g.final o p (rw g.october q)

  by_spring_window :
      at < day_on (y at) 9 30 → formatumstellung_toleranz o ≡ toleranz (day_on (y at) 3 31) (day_on (y at) 4 2) o
  unfolding formatumstellung_toleranz
  by_spring_window q = spring_only (y at) (from at inside) (to at inside) o (autumn_off (inr q))

  by_autumn_window :
      day_on (y at) 4 2 ≤ at → formatumstellung_toleranz o ≡ toleranz (day_on (y at) 9 30) (day_on (y at) 10 2) o
  unfolding formatumstellung_toleranz
  by_autumn_window q =
      let g = g at inside in
      autumn_only (y at) (from at inside) (to at inside) o (spring_off (inl (omega (arith, g))))

  pub on_the_day : is_change_day (d at) ≡ true → formatumstellung_toleranz o ≡ toleranz (at - 1) (at + 1) o
  on_the_day e =
      let g = g at inside in
      ⊎_elim
      (λ q. by_spring_window (omega (arith, g)) ∙ same_window o _ _ _ _ (omega (arith, g)) (omega (arith, g)))
      (λ q. by_autumn_window (omega (arith, g)) ∙ same_window o _ _ _ _ (omega (arith, g)) (omega (arith, g)))
      (change_day at inside e)

  pub on_the_eve : is_eve (d at) ≡ true → formatumstellung_toleranz o ≡ toleranz at (at + 2) o
  on_the_eve e =
      let g = g at inside in
      ⊎_elim
      (λ q. by_spring_window (omega (arith, g)) ∙ same_window o _ _ _ _ q (omega (arith, g)))
      (λ q. by_autumn_window (omega (arith, g)) ∙ same_window o _ _ _ _ q (omega (arith, g)))
      (eve at inside e)

  pub elsewhere : is_change_day (d at) ≡ false → is_eve (d at) ≡ false → formatumstellung_toleranz o ≡ o
  unfolding formatumstellung_toleranz
  elsewhere e f =
      let g = g at inside in
      let h = from at inside in
      let k = to at inside in
      let t = dates (y at) h k in
      by_none (y at) h k o
      (spring_off (off at inside 3 31 4 t.0 refl t.1 refl g.march e f))
      (autumn_off (off at inside 9 30 10 t.2 refl t.3 refl g.september e f))

pub ruleset date_rules = (change_inside, eve_inside, on_the_day, on_the_eve, elsewhere)
