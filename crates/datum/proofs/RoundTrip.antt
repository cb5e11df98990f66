-- A date and its index undo each other, and what is no date of the range.
--   index_then_date  the date at the index of a date is that date
--   date_then_index  every index of the calendar has a date, whose index it is
--   index_inside     the index of a date is one of the calendar
--   no_date_lem          a date has no index exactly if it is no date of the range
-- Source: document 01, first paragraph.
-- Assumes nothing.
use Prim.Native.Nat.{ℕ, ◌≤◌}
use mathlib.Core.Bool.{Bool, true, false}
use mathlib.Core.Logic.{◌↔◌}
use mathlib.Core.Path.{◌≡◌, refl, ap, ◌∙◌}
use native.Mathlib.Omega.{arith}
use Rattle.zaehlung.specs.Walk.{last}
use Rattle.datum.specs.declared.Date.{Date}
use Rattle.datum.specs.Calendar.{is_date, days_before, index_of, date_of}
use Rattle.datum.proofs.Dates.{Valid, valid_is, is_valid, date_index, index_below, index_date}
use Rattle.std.specs.Prelude.{Some, None}

at_valid : (d : Date) → is_date d ≡ true → index_of d ≡ Some (days_before d)
unfolding index_of
at_valid d t = rw t

at_invalid : (d : Date) → is_date d ≡ false → index_of d ≡ None
unfolding index_of
at_invalid d t = rw t

-- a date with an index is one of the range, and the index is the number of days before it
pub has_index : (d : Date) (i : ℕ) → index_of d ≡ Some i → Valid d × (days_before d ≡ i)
has_index d i e = go (is_date d) refl
  where
    go : (b : Bool) → is_date d ≡ b → Valid d × (days_before d ≡ i)
    go true t = let a = at_valid d t in (valid_is d t, (cc))
    go false t = let a = at_invalid d t in let z : ◌≡◌ {A = ℕ} 0 1 = cc in absurd (omega arith)

pub index_then_date : (d : Date) (i : ℕ) → index_of d ≡ Some i → date_of i ≡ d
index_then_date d i e = let v = has_index d i e in rw v.1 at (date_index d v.0)

pub date_then_index : (i : ℕ) → i ≤ last → index_of (date_of i) ≡ Some i
date_then_index i h = let v = index_date i h in at_valid (date_of i) (is_valid (date_of i) v.0) ∙ ap Some v.1

pub index_inside : (d : Date) (i : ℕ) → index_of d ≡ Some i → i ≤ last
index_inside d i e = let v = has_index d i e in omega (arith, index_below d v.0)

pub no_date_lem : (d : Date) → (index_of d ≡ None) ↔ (Valid d → ⊥)
no_date_lem d = (none, (λ f. go f (is_date d) refl))
  where
    none : index_of d ≡ None → Valid d → ⊥
    none e v = let a = at_valid d (is_valid d v) in let z : ◌≡◌ {A = ℕ} 0 1 = cc in omega arith

    go : (Valid d → ⊥) → (b : Bool) → is_date d ≡ b → index_of d ≡ None
    go f true t = absurd (f (valid_is d t))
    go f false t = at_invalid d t
