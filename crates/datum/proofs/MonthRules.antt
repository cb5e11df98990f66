-- What the proofs of the month shifts cite: signed numbers and the calendar's months.
--   InRange      a month's number whose year lies in the calendar: it is a natural number
-- Assumes nothing.
use Prim.Native.Nat.{ℕ, ◌+◌, ◌/◌, ◌%◌, ◌^◌, ◌≤◌, ◌<◌, min}
use mathlib.Core.Bool.{Bool, true, false}
use mathlib.Core.Path.{◌≡◌, refl}
use native.Mathlib.Omega.{arith}
use lib.Dec.{T}
use lib.IntN.{ℤ, pos, negsuc, nat_abs, ◌+ℤ◌, ◌-ℤ◌, pos-+ℤ-pos}
use lib.Signed.{lt_z, non_neg}
use borrow.Author.Tests.{ltb-true, ltb-false, le-leb, lt-leb}
use mir.Syntax.{w8, w16, w64}
use mir.Val.{Fits, SFits, to_z}
use mir.Facts.{to_z-of_z}
use Rattle.datum.specs.declared.Date.{Date}
use Rattle.datum.specs.Calendar.{is_leap, days_in_month}
use Rattle.datum.specs.Floor.{floor_div, floor_mod}
use Rattle.datum.specs.MonthShift.{ordinal_of, in_month, on_month, add_months, subtract_months}
use Rattle.datum.proofs.Dates.{len_ge}
use Rattle.datum.proofs.Signed.{back, clash, pos_fits, neg_fits, back_pos, sub_fits}
use Rattle.std.specs.Prelude.{Option, Some, None}

-- in_month: n is what `days_in_month` returned, r the smaller of it and the day
pub cut :
    (y m x n r : ℕ) (l : Bool) → 1996 ≤ y → y ≤ 2899 → l ≡ is_leap y → n ≡ days_in_month l m → r ≡ min x n →
    ◌≡◌ {A = Option Date} (Some (record { year = y; month = m; day = r })) (in_month y m x)
unfolding in_month
cut y m x n r l a b g e q = rw (le-leb 1996 y a, le-leb y 2899 b, q, rw g at e)

-- a day that every month has
pub kept_in_all :
    (y m x : ℕ) → 1996 ≤ y → y ≤ 2899 → 1 ≤ m → m ≤ 12 → x ≤ 28 →
    ◌≡◌ {A = Option Date} (Some (record { year = y; month = m; day = x })) (in_month y m x)
kept_in_all y m x a b c e h =
    let n = days_in_month (is_leap y) m in
    cut y m x n x (is_leap y) a b refl refl (omega (arith, len_ge (is_leap y) m c e))

pub ruleset in_month_rules = (cut, kept_in_all)

pub record InRange (t y m : ℤ) : Type 0 where
  pub months : ℕ
  pub is : t ≡ pos months
  pub year : back y ≡ pos (months / 12)
  pub month : back m ≡ pos (months % 12)
  pub from : 1996 ≤ months / 12
  pub to : months / 12 ≤ 2899

-- on_month: y and m are the parts of t that `split_months` returned
module _ (t y m : ℤ) (x : ℕ) (f : SFits w64 t) (ey : y ≡ floor_div (back t) 12) (em : m ≡ floor_mod (back t) 12) where
  early_at : (z : ℤ) → SFits w64 z → y ≡ floor_div z 12 → lt_z (back y) (pos 1996) ≡ true → None ≡ on_month z x
  unfolding floor_div on_month in_month
  early_at (pos a) k e h =
      let l = ltb-true (a / 12) 1996 (rw (e, back_pos (a / 12) (omega (arith, k.sfits))) at h) in
      rw (lt-leb 1996 (a / 12) l)
  early_at (negsuc a) k e h = refl

  pub early : lt_z (back y) (pos 1996) ≡ true → None ≡ on_month t x
  early = early_at t f (rw (to_z-of_z f) at ey)

  in_range_at :
      (z : ℤ) → SFits w64 z → y ≡ floor_div z 12 → m ≡ floor_mod z 12 → t ≡ z → lt_z (back y) (pos 1996) ≡ false →
      lt_z (pos 2899) (back y) ≡ false → InRange t y m
  unfolding floor_div floor_mod
  in_range_at (pos a) k e g q h i =
      let b = back_pos (a / 12) (omega (arith, k.sfits)) in
      record {
        months = a;
        is = q;
        year = rw e b;
        month = rw g (back_pos (a % 12) (omega arith));
        from = ltb-false (a / 12) 1996 (rw (e, b) at h);
        to = ltb-false 2899 (a / 12) (rw (e, b) at i);
      }
  in_range_at (negsuc a) k e g q h i =
      clash true refl (rw (e, to_z-of_z (neg_fits (a / 12) (omega (arith, k.sfits)))) at h)

  late_at : (z : ℤ) → SFits w64 z → y ≡ floor_div z 12 → lt_z (pos 2899) (back y) ≡ true → None ≡ on_month z x
  unfolding floor_div on_month in_month
  late_at (pos a) k e h =
      let l = ltb-true 2899 (a / 12) (rw (e, back_pos (a / 12) (omega (arith, k.sfits))) at h) in
      rw (le-leb 1996 (a / 12) (omega arith), lt-leb (a / 12) 2899 l)
  late_at (negsuc a) k e h = refl

  pub late : lt_z (pos 2899) (back y) ≡ true → None ≡ on_month t x
  late = late_at t f (rw (to_z-of_z f) at ey)

  pub in_range_lem : lt_z (back y) (pos 1996) ≡ false → lt_z (pos 2899) (back y) ≡ false → InRange t y m
  in_range_lem = in_range_at t f (rw (to_z-of_z f) at ey) (rw (to_z-of_z f) at em) refl

module _ {t y m : ℤ} (r : InRange t y m) where
  pub year_cast : T (non_neg (back y)) × Fits w16 (nat_abs (back y))
  year_cast = rw r.year (tt, record { fits = omega (arith, r.to) })

  pub month_fits : SFits w64 (back m +ℤ pos 1)
  month_fits = rw r.month (pos_fits (r.months % 12 + 1) (omega arith))

  month_back : back (back m +ℤ pos 1) ≡ pos (r.months % 12 + 1)
  month_back = rw r.month (back_pos (r.months % 12 + 1) (omega arith))

  pub month_cast : T (non_neg (back (back m +ℤ pos 1))) × Fits w8 (nat_abs (back (back m +ℤ pos 1)))
  month_cast = rw month_back (tt, record { fits = omega arith })

  pub within :
      (1996 ≤ nat_abs (back y)) × (nat_abs (back y) ≤ 2899) × (1 ≤ nat_abs (back (back m +ℤ pos 1))) ×
      (nat_abs (back (back m +ℤ pos 1)) ≤ 12)
  within = rw (r.year, month_back) (r.from, r.to, omega arith, omega arith)

  pub on_it :
      (x : ℕ) (s : Option Date) → s ≡ in_month (nat_abs (back y)) (nat_abs (back (back m +ℤ pos 1))) x →
      s ≡ on_month t x
  unfolding on_month
  on_it x s e = rw r.is (rw (r.year, month_back) at e)

-- ordinal_of, add_months, subtract_months
pub ordinal_is : (t : ℕ) → t < 2 ^ 63 → to_z w64 t ≡ pos t
ordinal_is t h = back_pos t h

-- o is what `ordinal_of` returned
module _ (d : Date) (o : ℤ) (n : ℕ) (e : o ≡ pos (ordinal_of d)) (h : ordinal_of d < 2 ^ 32) (g : n < 2 ^ 32) where
  parts : (back o ≡ pos (ordinal_of d)) × (to_z w64 n ≡ pos n)
  parts = (rw e (back_pos (ordinal_of d) (omega arith)), back_pos n (omega arith))

  pub add_fits : SFits w64 (back o +ℤ to_z w64 n)
  add_fits = rw (parts.0, parts.1, pos-+ℤ-pos (ordinal_of d) n) (pos_fits (ordinal_of d + n) (omega arith))

  pub subtract_fits : SFits w64 (back o -ℤ to_z w64 n)
  subtract_fits = rw (parts.0, parts.1) (sub_fits (ordinal_of d) n (omega arith) (omega arith))

  pub add_is : (r : Option Date) → r ≡ on_month (back (back o +ℤ to_z w64 n)) d.day → r ≡ add_months d n
  unfolding add_months
  add_is r p = rw (to_z-of_z add_fits, parts.0, parts.1) at p

  pub subtract_is : (r : Option Date) → r ≡ on_month (back (back o -ℤ to_z w64 n)) d.day → r ≡ subtract_months d n
  unfolding subtract_months
  subtract_is r p = rw (to_z-of_z subtract_fits, parts.0, parts.1) at p

-- a date's month number is small
pub ordinal_small : (d : Date) → Fits w16 d.year → Fits w8 d.month → ordinal_of d < 2 ^ 32
ordinal_small d a b = omega (arith, a.fits, b.fits)

pub ruleset shift_rules = (ordinal_small, add_fits, subtract_fits, add_is, subtract_is)
