-- A signed local holds bits: the number that it was given, read back, and sums and differences of naturals by their
-- sign.
--   back z      = what a local of 64 bits reads as that was given z
--   pos_fits    a natural below 2^63 fits; neg_fits the same below zero
--   back_pos    such a natural is read back as itself
--   sub_pos     a difference of naturals that is not negative; sub_neg one that is
--   sub_fits    a difference of naturals that fit, fits
--   below       -(k) - 1 is the number below -k
-- Assumes nothing.
use Prim.Native.Nat.{ℕ, zero, suc, ◌-◌, ◌^◌, ◌≤◌, ◌<◌}
use mathlib.Core.Bool.{Bool, true, false}
use mathlib.Core.Path.{◌≡◌, refl, sym, ap, subst, ◌∙◌}
use native.Mathlib.Omega.{arith}
use native.Mathlib.Decide.{dec_le}
use lib.Dec.{T}
use lib.IntN.{ℤ, pos, negsuc, neg_ℤ, ◌-ℤ◌}
use borrow.Author.Tests.{le-ltb, lt-ltb}
use mir.Syntax.{w64}
use mir.Val.{SFits, to_z, of_z}
use mir.Facts.{to_z-of_z}

abbrev pub back : ℤ → ℤ
back z = to_z w64 (of_z w64 z)

-- a test that is both
pub clash : {A : Type 0} (b : Bool) → b ≡ true → b ≡ false → A
clash b p q = absurd (subst T (sym p ∙ q) tt)

pub pos_fits : (k : ℕ) → k < 2 ^ 63 → SFits w64 (pos k)
pos_fits k h = record { sfits = h }

pub neg_fits : (k : ℕ) → k < 2 ^ 63 → SFits w64 (negsuc k)
neg_fits k h = record { sfits = h }

pub below : (k : ℕ) → neg_ℤ (pos k) -ℤ pos 1 ≡ negsuc k
below zero = refl
below (suc k) = ap negsuc (omega arith)

pub back_pos : (k : ℕ) → k < 2 ^ 63 → back (pos k) ≡ pos k
back_pos k h = to_z-of_z (pos_fits k h)

pub sub_pos : (a n : ℕ) → n ≤ a → pos a -ℤ pos n ≡ pos (a - n)
sub_pos a zero h = ap pos (omega arith)
sub_pos a (suc n) h = rw (le-ltb a (suc n) h)

pub sub_neg : (a n : ℕ) → a < n → pos a -ℤ pos n ≡ negsuc (n - suc a)
sub_neg a zero h = absurd (omega arith)
sub_neg a (suc n) h = rw (lt-ltb a (suc n) h)

pub sub_fits : (a n : ℕ) → a < 2 ^ 63 → n < 2 ^ 63 → SFits w64 (pos a -ℤ pos n)
sub_fits a n h g =
    elim (dec_le n a) [
      | yes l ↦ rw (sub_pos a n l) (pos_fits (a - n) (omega arith))
      | no l ↦ rw (sub_neg a n (omega arith)) (neg_fits (n - suc a) (omega arith))
    ]
