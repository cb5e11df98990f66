-- The first day of a year in closed form, and the year of a day.
--   closed         the days before a year, by the years' leap days
--   year_len_bounds a year has 365 or 366 days
--   start_all      the 904 years have 330,180 days
--   year_found     a year that starts by a day, and whose next starts after it, is the day's
--   year_rest      the day in its year, from the year's first
-- Source: the Gregorian calendar.
-- Assumes nothing.
use Prim.Native.Nat.{ℕ, zero, suc, ◌+◌, ◌*◌, ◌-◌, ◌/◌, ◌%◌, ◌≤◌, ◌<◌}
use mathlib.Core.Bool.{Bool, true, false, not, ◌&&◌, ◌||◌}
use mathlib.Core.Path.{◌≡◌, refl, ap}
use native.Mathlib.Omega.{arith}
use native.Mathlib.Numerals.{add-one}
use native.Mathlib.Decide.{dec_le}
use lib.Dec.{eqb}
use borrow.Author.Tests.{eqb-true, eqb-false}
use Rattle.datum.specs.Calendar.{is_leap, year_len, year_start, year_of}
use Rattle.zaehlung.specs.Walk.{bit, last}
use Rattle.zaehlung.specs.Blocks.{start}
use Rattle.zaehlung.proofs.BlockLaws.{start_suc, start_mono, at_is, at_sum}

-- how a quotient moves from a year to the next: one lemma for each divisor, since omega gives up on all three at once
step4 : (y : ℕ) (b : Bool) → eqb (suc y % 4) 0 ≡ b → suc y / 4 ≡ y / 4 + bit b
step4 y true p = omega (arith, eqb-true)
step4 y false p = omega (arith, eqb-false)

step100 : (y : ℕ) (b : Bool) → eqb (suc y % 100) 0 ≡ b → suc y / 100 ≡ y / 100 + bit b
step100 y true p = omega (arith, eqb-true)
step100 y false p = omega (arith, eqb-false)

step400 : (y : ℕ) (b : Bool) → eqb (suc y % 400) 0 ≡ b → suc y / 400 ≡ y / 400 + bit b
step400 y true p = omega (arith, eqb-true)
step400 y false p = omega (arith, eqb-false)

by100 : (y : ℕ) → y % 100 ≡ 0 → y % 4 ≡ 0
by100 y h = omega arith

by400 : (y : ℕ) → y % 400 ≡ 0 → y % 100 ≡ 0
by400 y h = omega arith

-- the sum, with the quotients as unknowns
cancel :
    (p q r p' q' r' : ℕ) (a b c : Bool) → p ≡ p' + bit a → q ≡ q' + bit b → r ≡ r' + bit c →
    bit (a && (not b || c)) + bit b ≡ bit a + bit c → bit (a && (not b || c)) + (p' + r') + q ≡ p + r + q'
cancel p q r p' q' r' a b c e f g h = omega arith

-- leap days up to and including a year, less those up to the year before: one, if it is a leap year
leap_tests :
    (y : ℕ) (a b c : Bool) → eqb (suc y % 4) 0 ≡ a → eqb (suc y % 100) 0 ≡ b → eqb (suc y % 400) 0 ≡ c →
    bit (a && (not b || c)) + (y / 4 + y / 400) + suc y / 100 ≡ suc y / 4 + suc y / 400 + y / 100
leap_tests y true true true p q r = cancel (suc y / 4) (suc y / 100) (suc y / 400) (y / 4) (y / 100) (y / 400) true true
    true (step4 y true p) (step100 y true q) (step400 y true r) refl
leap_tests y true true false p q r = cancel (suc y / 4) (suc y / 100) (suc y / 400) (y / 4) (y / 100) (y / 400) true
    true false (step4 y true p) (step100 y true q) (step400 y false r) refl
leap_tests y true false true p q r = absurd (eqb-false (suc y % 100) 0 q (by400 (suc y) (eqb-true (suc y % 400) 0 r)))
leap_tests y true false false p q r = cancel (suc y / 4) (suc y / 100) (suc y / 400) (y / 4) (y / 100) (y / 400) true
    false false (step4 y true p) (step100 y false q) (step400 y false r) refl
leap_tests y false true true p q r = absurd (eqb-false (suc y % 4) 0 p (by100 (suc y) (eqb-true (suc y % 100) 0 q)))
leap_tests y false true false p q r = absurd (eqb-false (suc y % 4) 0 p (by100 (suc y) (eqb-true (suc y % 100) 0 q)))
leap_tests y false false true p q r = absurd (eqb-false (suc y % 100) 0 q (by400 (suc y) (eqb-true (suc y % 400) 0 r)))
leap_tests y false false false p q r = cancel (suc y / 4) (suc y / 100) (suc y / 400) (y / 4) (y / 100) (y / 400) false
    false false (step4 y false p) (step100 y false q) (step400 y false r) refl

leap_step : (y : ℕ) → bit (is_leap (suc y)) + (y / 4 + y / 400) + suc y / 100 ≡ suc y / 4 + suc y / 400 + y / 100
unfolding is_leap
leap_step y = leap_tests y (eqb (suc y % 4) 0) (eqb (suc y % 100) 0) (eqb (suc y % 400) 0) refl refl refl

join :
    (s b k p q r p' q' r' : ℕ) → s + 483 + q ≡ 365 * k + (p + r) → b + (p + r) + q' ≡ p' + r' + q →
    s + (365 + b) + 483 + q' ≡ 365 * suc k + (p' + r')
join s b k p q r p' q' r' e f = omega arith

year_len_is : (k : ℕ) → year_len k ≡ 365 + bit (is_leap (suc (k + 1995)))
unfolding year_len
year_len_is k = let e : 1996 + k ≡ suc (k + 1995) = omega arith in ap (λ (y : ℕ). 365 + bit (is_leap y)) e

-- the closed form
pub closed : (k : ℕ) → year_start k + 483 + (k + 1995) / 100 ≡ 365 * k + ((k + 1995) / 4 + (k + 1995) / 400)
unfolding start
closed zero = refl
closed (suc k) =
    let f : suc k + 1995 ≡ suc (k + 1995) = omega arith in
    let y : ℕ = k + 1995 in
    rw (f, year_len_is k) (join (year_start k) (bit (is_leap (suc y))) k (y / 4) (y / 100) (y / 400) (suc y / 4)
    (suc y / 100) (suc y / 400) (closed k) (leap_step y))

pub year_len_bounds : (k : ℕ) → (365 ≤ year_len k) × (year_len k ≤ 366)
year_len_bounds k = go (is_leap (suc (k + 1995))) (year_len_is k)
  where
    go : (b : Bool) → year_len k ≡ 365 + bit b → (365 ≤ year_len k) × (year_len k ≤ 366)
    go true e = omega arith
    go false e = omega arith

pub start_all : year_start 904 ≡ 330180
start_all = omega (arith, closed 904)

pub start_none : year_start 0 ≡ 0
unfolding start
start_none = refl

-- a year that starts by a day of the calendar is one of it
pub year_le : (i k : ℕ) → i ≤ last → year_start k ≤ i → k ≤ 903
year_le i k h g =
    elim (dec_le k 903) [
      | yes l ↦ l
      | no l ↦ absurd (omega (
        arith,
        start_all,
        start_mono year_len 904 k (omega arith),
      ))
    ]

-- what the loops of `year_of` establish
pub year_found : (i k : ℕ) → i ≤ last → year_start k ≤ i → i < year_start (k + 1) → year_of i ≡ (k, i - year_start k)
year_found i k h a b =
    let n = start_suc year_len k in
    let c : i < year_start (suc k) = rw add-one at b in
    at_is year_len 903 0 k i (i - year_start k) (omega arith) (year_le i k h a) (omega (
      arith,
      start_none,
    )) (omega arith)

pub year_rest :
    (i : ℕ) → (year_start (year_of i).0 ≤ i) × ((year_of i).1 ≡ i - year_start (year_of i).0) × ((year_of i).0 ≤ 903)
year_rest i = omega (arith, at_sum year_len 903 0 i, start_none)
