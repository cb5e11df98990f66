use Prim.Native.Nat.{ℕ, ◌+◌, ◌-◌, ◌*◌, ◌/◌, ◌≤◌, min}
use mathlib.Core.Path.{◌≡◌, refl, sym, ◌∙◌}
use native.Mathlib.Omega.{arith}
use native.Mathlib.Decide.{dec_le}
use Rattle.std.specs.Prelude.{Option, Some, None}
use Rattle.datum.specs.declared.Date.{Date}
use Rattle.datum.specs.Calendar.{is_leap, days_in_month}
use Rattle.datum.specs.MonthShift.{ordinal_of, add_months, subtract_months}
use Rattle.datum.specs.Months.{AddedLeaves, SubtractedLeaves}
use Rattle.datum.proofs.Dates.{valid_is}
use Rattle.datum.proofs.Months.{day_of, on_in, on_out, on_before, on_reached, add_on, take_on, take_before}
use Rattle.datum.proofs.Months.{added_date, taken_date, later_inside, earlier_inside}
use Rattle.datum.proofs.theorems.month_shifts.Goals as goal

-- the month and the day of what was reached
abbrev Parts : ℕ → ℕ → Date → Type 0
Parts t x r = (ordinal_of r ≡ t) × (r.day ≡ min x (days_in_month (is_leap r.year) r.month))

parts : (t x : ℕ) (r : Date) → r ≡ day_of t x → Parts t x r
parts t x r e = rw e (omega arith, refl)

added_parts : (d r : Date) (n : ℕ) → add_months d n ≡ Some r → Parts (ordinal_of d + n) d.day r
added_parts d r n e = parts _ _ r (on_reached (ordinal_of d + n) d.day r (sym (add_on d n) ∙ e)).2

taken_parts :
    (d r : Date) (n : ℕ) → subtract_months d n ≡ Some r → (n ≤ ordinal_of d) × Parts (ordinal_of d - n) d.day r
taken_parts d r n e =
    elim (dec_le n (ordinal_of d)) [
      | yes h ↦ (h, parts _ _ r (on_reached (ordinal_of d - n) d.day r (sym (take_on d n h) ∙ e)).2)
      | no h ↦ let z : ◌≡◌ {A = ℕ} 0 1 = cc (take_before d n (omega arith)) in absurd (omega arith)
    ]

-- a date is not none
never : {B : Type 0} (s : Option Date) (e : Date) → s ≡ Some e → s ≡ None → B
never s e p q = let z : ◌≡◌ {A = ℕ} 0 1 = cc in absurd (omega arith)

added_leaves : AddedLeaves
added_leaves d n v = (
  λ q.
      let t = ordinal_of d + n in
      elim (dec_le (t / 12) 2899) [
        | no b ↦ omega arith
        | yes b ↦ never (add_months d n) (day_of t d.day) (add_on d n ∙ on_in t d.day (omega (arith, v.from)) b) q
      ],
  λ h. add_on d n ∙ on_out (ordinal_of d + n) d.day (omega arith),
)

taken_leaves : SubtractedLeaves
taken_leaves d n v = (
  λ q.
      let t = ordinal_of d - n in
      elim (dec_le (1996 * 12 + n) (ordinal_of d)) [
        | no b ↦ omega arith
        | yes b ↦
            never (subtract_months d n) (day_of t d.day)
            (take_on d n (omega arith) ∙ on_in t d.day (omega arith) (omega (arith, v.to, v.month_to))) q
      ],
  λ h.
      elim (dec_le n (ordinal_of d)) [
        | yes b ↦ take_on d n b ∙ on_before (ordinal_of d - n) d.day (omega arith)
        | no b ↦ take_before d n (omega arith)
      ],
)

pub returns-clause-added_month : goal.returns-clause-added_month
returns-clause-added_month c = λ d r n e. (added_parts d r n e).0

pub returns-clause-added_day : goal.returns-clause-added_day
returns-clause-added_day c = λ d r n e. (added_parts d r n e).1

pub returns-clause-added_date : goal.returns-clause-added_date
returns-clause-added_date c = λ d r n h e. valid_is r (rw e at (added_date d n h))

pub returns-clause-added_leaves : goal.returns-clause-added_leaves
returns-clause-added_leaves c = added_leaves

pub returns-clause-subtracted_month : goal.returns-clause-subtracted_month
returns-clause-subtracted_month c = λ d r n e. let p = taken_parts d r n e in omega (arith, p.0, p.1.0)

pub returns-clause-subtracted_day : goal.returns-clause-subtracted_day
returns-clause-subtracted_day c = λ d r n e. (taken_parts d r n e).1.1

pub returns-clause-subtracted_date : goal.returns-clause-subtracted_date
returns-clause-subtracted_date c = λ d r n h e. valid_is r (rw e at (taken_date d n h))

pub returns-clause-subtracted_leaves : goal.returns-clause-subtracted_leaves
returns-clause-subtracted_leaves c = taken_leaves

pub returns-clause-later_inside : goal.returns-clause-later_inside
returns-clause-later_inside c = later_inside

pub returns-clause-earlier_inside : goal.returns-clause-earlier_inside
returns-clause-earlier_inside c = earlier_inside
