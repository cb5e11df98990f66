-- Floor division by a fixed divisor, from the machine's division, which rounds toward zero: one theory for every
-- divisor.
--   Steps d            a divisor's own facts, which omega proves at a numeral; by_12 for the months of a year
--   floor_same         where the machine's remainder is not negative, quotient and remainder are those of floor
--                      division
--   floor_down         where it is, the quotient less 1 and the remainder and d are
--   split-..           the same of signed locals, in the form in which a function that splits by d asks for them
-- Assumes nothing.
use Prim.Native.Nat.{ℕ, zero, suc, ◌-◌, ◌/◌, ◌%◌, ◌^◌, ◌≤◌, ◌<◌}
use mathlib.Core.Bool.{Bool, true, false}
use mathlib.Core.Path.{◌≡◌, refl, sym}
use native.Mathlib.Omega.{arith}
use lib.IntN.{ℤ, pos, negsuc, neg_ℤ, ◌+ℤ◌, ◌-ℤ◌}
use lib.Signed.{mag, lt_z, quot_z, rem_z, mag_rem}
use borrow.Author.Tests.{le-ltb, ltb-true}
use mir.Syntax.{w64}
use mir.Val.{SFits}
use mir.Facts.{to_z-of_z}
use mir.ValLaws.{sfits_le}
use Rattle.datum.specs.Floor.{floor_div, floor_mod}
use Rattle.datum.proofs.Signed.{back, clash, below}
use Rattle.std.specs.Int.{int_div_euclid, int_rem_euclid}

pub record Steps (d : ℕ) : Type 0 where
  pub some : 0 < d
  pub fits : d < 2 ^ 63
  pub full : (a : ℕ) → suc a % d ≡ 0 → (suc a / d ≡ suc (a / d)) × (d - 1 - a % d ≡ 0)
  pub part : (a y : ℕ) → suc a % d ≡ suc y → (suc a / d ≡ a / d) × (d - 1 - a % d ≡ d - suc y) × (suc y ≤ d)
  pub less : (a : ℕ) → a / d ≤ a
  pub down : (a : ℕ) → suc a / d ≤ suc a
  pub rest : (a : ℕ) → a % d < d

pub by_12 : Steps 12
by_12 = record {
  some = omega arith;
  fits = omega arith;
  full = λ a h. omega arith;
  part = λ a y h. omega arith;
  less = λ a. omega arith;
  down = λ a. omega arith;
  rest = λ a. omega arith;
}

mag_neg : (r a : ℕ) → r ≤ suc a → mag (neg_ℤ (pos r)) ≤ a
mag_neg zero a h = omega arith
mag_neg (suc r) a h = omega arith

-- -(y + 1) + d
up : (y d : ℕ) → suc y ≤ d → negsuc y +ℤ pos d ≡ pos (d - suc y)
up y d h = rw (le-ltb d (suc y) h)

module _ (d : ℕ) (D : Steps d) where
  pub mag_quot : (s : ℤ) → mag (quot_z s (pos d)) ≤ mag s
  mag_quot (pos a) = D.less a
  mag_quot (negsuc a) = mag_neg (suc a / d) a (D.down a)

  pub mag_floor : (s : ℤ) → mag (floor_div s d) ≤ mag s
  unfolding floor_div
  mag_floor (pos a) = D.less a
  mag_floor (negsuc a) = D.less a

  pub floor_same :
      (s : ℤ) → lt_z (rem_z s (pos d)) (pos 0) ≡ false →
      (quot_z s (pos d) ≡ floor_div s d) × (rem_z s (pos d) ≡ floor_mod s d)
  unfolding floor_div floor_mod
  floor_same (pos a) h = (refl, refl)
  floor_same (negsuc a) h = go (suc a % d) refl
    where
      go :
          (x : ℕ) → suc a % d ≡ x →
          (neg_ℤ (pos (suc a / d)) ≡ negsuc (a / d)) × (neg_ℤ (pos (suc a % d)) ≡ pos (d - 1 - a % d))
      go zero e = let q = D.full a e in (rw q.0, rw (e, q.1))
      go (suc y) e = clash true refl (rw e at h)

  pub floor_down :
      (s : ℤ) → lt_z (rem_z s (pos d)) (pos 0) ≡ true →
      (quot_z s (pos d) -ℤ pos 1 ≡ floor_div s d) × (rem_z s (pos d) +ℤ pos d ≡ floor_mod s d)
  unfolding floor_div floor_mod
  floor_down (pos a) h = absurd (omega (arith, ltb-true (a % d) 0 h))
  floor_down (negsuc a) h = go (suc a % d) refl
    where
      go :
          (x : ℕ) → suc a % d ≡ x →
          (neg_ℤ (pos (suc a / d)) -ℤ pos 1 ≡ negsuc (a / d)) × (neg_ℤ (pos (suc a % d)) +ℤ pos d ≡ pos (d - 1 - a % d))
      go zero e = clash true refl (sym (rw e at h))
      go (suc y) e = let q = D.part a y e in (rw q.0 (below (a / d)), rw (e, q.1) (up y d q.2))

  mag_mod : (s : ℤ) → mag (floor_mod s d) < 2 ^ 63
  unfolding floor_mod
  mag_mod (pos a) = omega (arith, D.fits, D.rest a)
  mag_mod (negsuc a) = omega (arith, D.fits)

  -- the same of signed locals
  module _ (s : ℤ) (f : SFits w64 s) where
    quot_fits : SFits w64 (quot_z s (pos d))
    quot_fits = sfits_le (mag_quot s) f

    rem_fits : SFits w64 (rem_z s (pos d))
    rem_fits = sfits_le (mag_rem s (pos d)) f

    floor_fits : SFits w64 (floor_div s d)
    floor_fits = sfits_le (mag_floor s) f

    mod_fits : SFits w64 (floor_mod s d)
    mod_fits = record { sfits = mag_mod s }

    pub split_asks : (0 < d) × SFits w64 (quot_z (back s) (pos d))
    split_asks = (D.some, rw (to_z-of_z f) quot_fits)

    test : (b : Bool) → lt_z (back (rem_z (back s) (pos d))) (pos 0) ≡ b → lt_z (rem_z s (pos d)) (pos 0) ≡ b
    test b h = rw (to_z-of_z f, to_z-of_z rem_fits) at h

    pub split_day_fits :
        lt_z (back (rem_z (back s) (pos d))) (pos 0) ≡ true → SFits w64 (back (quot_z (back s) (pos d)) -ℤ pos 1)
    split_day_fits h = rw (to_z-of_z f, to_z-of_z quot_fits, (floor_down s (test true h)).0) floor_fits

    pub split_second_fits :
        lt_z (back (rem_z (back s) (pos d))) (pos 0) ≡ true → SFits w64 (back (rem_z (back s) (pos d)) +ℤ pos d)
    split_second_fits h = rw (to_z-of_z f, to_z-of_z rem_fits, (floor_down s (test true h)).1) mod_fits

    pub split_day_down :
        lt_z (back (rem_z (back s) (pos d))) (pos 0) ≡ true →
        back (back (quot_z (back s) (pos d)) -ℤ pos 1) ≡ floor_div s d
    split_day_down h = rw (to_z-of_z f, to_z-of_z quot_fits, (floor_down s (test true h)).0, to_z-of_z floor_fits)

    pub split_second_down :
        lt_z (back (rem_z (back s) (pos d))) (pos 0) ≡ true →
        back (back (rem_z (back s) (pos d)) +ℤ pos d) ≡ floor_mod s d
    split_second_down h = rw (to_z-of_z f, to_z-of_z rem_fits, (floor_down s (test true h)).1, to_z-of_z mod_fits)

    pub split_day : lt_z (back (rem_z (back s) (pos d))) (pos 0) ≡ false →
        back (quot_z (back s) (pos d)) ≡ floor_div s d
    split_day h = rw (to_z-of_z f, to_z-of_z quot_fits) (floor_same s (test false h)).0

    pub split_second : lt_z (back (rem_z (back s) (pos d))) (pos 0) ≡ false →
        back (rem_z (back s) (pos d)) ≡ floor_mod s d
    split_second h = rw (to_z-of_z f, to_z-of_z rem_fits) (floor_same s (test false h)).1

-- std's division rounds down by a positive number, and its remainder is that of it
pub div_floor : (z : ℤ) (n : ℕ) → int_div_euclid z (pos n) ≡ floor_div z n
unfolding floor_div
div_floor (pos a) n = refl
div_floor (negsuc a) n = refl

pub rem_floor : (z : ℤ) (n : ℕ) → int_rem_euclid z (pos n) ≡ floor_mod z n
unfolding floor_mod
rem_floor (pos a) n = refl
rem_floor (negsuc a) n = refl
