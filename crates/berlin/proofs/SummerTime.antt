-- The two last Sundays of a year, and the offset on each side of the two switches. From here on all is linear
-- arithmetic in the indexes of these two days.
--   parts        quotient and remainder of a number of seconds that is given as days and seconds
--   Sundays k    where the last Sundays of March and October of the year 1996 + k lie
--   InYear i k   the day with index i lies in the year 1996 + k; Near i k: in it or at most two days beside it
--   guessed      the year that a day lies near, by the average length of a year
--   winter_early winter_late summer_in   the offset before, after and in summer time
-- Assumes nothing.
use Prim.Native.Nat.{ℕ, zero, suc, ◌+◌, ◌-◌, ◌*◌, ◌/◌, ◌%◌, ◌≤◌, ◌<◌}
use mathlib.Core.Bool.{Bool, true, false}
use mathlib.Core.Path.{◌≡◌, refl, ap, ◌∙◌}
use native.Mathlib.Omega.{arith}
use native.Mathlib.Decide.{dec_le, dec_lt}
use borrow.Author.Tests.{le-leb, lt-leb, lt-ltb, le-ltb}
use Rattle.zaehlung.specs.Walk.{bit, last}
use Rattle.zaehlung.specs.Blocks.{start}
use Rattle.zaehlung.proofs.BlockLaws.{start_suc, at_is, at_sum, at_below}
use Rattle.datum.proofs.Dates.{year_len_at}
use Rattle.datum.specs.Calendar.{is_leap, year_len, year_start, year_of, days_in_month, month_start, days_before}
use Rattle.datum.specs.Calendar.{date_in}
use Rattle.datum.specs.Calendar.{date_of}
use Rattle.datum.proofs.Years.{closed, year_len_bounds, start_all, start_none}
use Rattle.berlin.specs.Berlin.{day_start, last_sunday, summer_from, summer_to, year_at, offset_at}

pub parts : (x q r : ℕ) → x ≡ q * 86400 + r → r < 86400 → (x / 86400 ≡ q) × (x % 86400 ≡ r)
parts x q r e h = (omega arith, omega arith)

-- the Sunday on or before a day: b is how many days back it lies
back_days : (i : ℕ) → (i % 7 + 1) % 7 ≤ 6
back_days i = omega arith

back_sunday : (i b : ℕ) → b ≡ (i % 7 + 1) % 7 → b ≤ i → (i - b) % 7 ≡ 6
back_sunday i b e h = omega arith

-- the days before the months in which the clock changes, and in which a Formatumstellung begins or ends
pub starts :
    (l : Bool) →
    (month_start l 3 ≡ 59 + bit l) × (month_start l 4 ≡ 90 + bit l) × (month_start l 9 ≡ 243 + bit l)
    × (month_start l 10 ≡ 273 + bit l)
unfolding start days_in_month
starts true = (refl, refl, refl, refl)
starts false = (refl, refl, refl, refl)

last_is :
    (y m : ℕ) → (i : ℕ) → days_before (record { year = y; month = m; day = 31 }) ≡ i → 6 ≤ i →
    (last_sunday y m ≤ i) × (i ≤ last_sunday y m + 6) × (last_sunday y m % 7 ≡ 6)
unfolding last_sunday
last_is y m i e h =
    let b : ℕ = (i % 7 + 1) % 7 in
    let g = back_days i in
    rw e (omega arith, omega arith, back_sunday i b refl (omega arith))

pub record Sundays (k : ℕ) : Type 0 where
  pub march_from : year_start k + 83 ≤ last_sunday (1996 + k) 3
  pub march_to : last_sunday (1996 + k) 3 ≤ year_start k + 90
  pub october_from : year_start k + 297 ≤ last_sunday (1996 + k) 10
  pub october_to : last_sunday (1996 + k) 10 + 62 ≤ year_start (suc k)
  pub march_sunday : last_sunday (1996 + k) 3 % 7 ≡ 6
  pub october_sunday : last_sunday (1996 + k) 10 % 7 ≡ 6

pub sundays : (k : ℕ) → Sundays k
sundays k =
    let l : Bool = is_leap (1996 + k) in
    let z : 1996 + k - 1996 ≡ k = omega arith in
    let e = ap year_start z in
    let a = starts l in
    let y = year_len_at (1996 + k) k refl in
    let n = start_suc year_len k in
    let v = year_len_bounds k in
    let m = last_is (1996 + k) 3 (year_start (1996 + k - 1996) + month_start l 3 + 30) refl (omega arith) in
    let o = last_is (1996 + k) 10 (year_start (1996 + k - 1996) + month_start l 10 + 30) refl (omega arith) in
    record {
      march_from = omega arith;
      march_to = omega arith;
      october_from = omega arith;
      october_to = omega arith;
      march_sunday = m.2;
      october_sunday = o.2;
    }

pub record InYear (i k : ℕ) : Type 0 where
  pub few : k ≤ 903
  pub from : year_start k ≤ i
  pub to : i < year_start (suc k)

-- the year of a day, as a number from 1996 on
pub in_year_lem : (i : ℕ) → i ≤ last → InYear i (year_of i).0
in_year_lem i h =
    let a = at_sum year_len 903 0 i in
    let b : (year_of i).1 < year_len (year_of i).0 = at_below year_len 903 0 i (omega (arith, start_all, start_none)) in
    let c = start_suc year_len (year_of i).0 in
    record { few = omega arith; from = omega (arith, start_none); to = omega (arith, start_none) }

pub year_name : (i : ℕ) → (date_of i).year ≡ 1996 + (year_of i).0
unfolding date_of date_in
year_name i = refl

pub year_is : (i k : ℕ) → InYear i k → (date_of i).year ≡ 1996 + k
year_is i k y =
    let c = start_suc year_len k in
    let q = at_is year_len 903 0 k i (i - year_start k) (omega arith) y.few (omega (arith, start_none)) (omega arith)
    in
    year_name i ∙ ap (λ (p : ℕ × ℕ). 1996 + p.0) q

pub year_at_lem : (s i t k : ℕ) → s + 3600 ≡ day_start i + t → t < 86400 → (date_of i).year ≡ k → year_at s ≡ k
unfolding year_at
year_at_lem s i t k e h g =
    let q : (s + 3600) / 86400 - 9496 ≡ i = omega (arith, (parts (s + 3600) (i + 9496) t e h).0) in
    ap (λ (x : ℕ). (date_of x).year) q ∙ g

-- the offset by the year's two switches
module _ (s y : ℕ) (e : year_at s ≡ y) where
  pub before_summer : s < summer_from y → offset_at s ≡ 3600
  unfolding offset_at
  before_summer h = rw (e, lt-leb (summer_from y) s h)

  pub in_summer : summer_from y ≤ s → s < summer_to y → offset_at s ≡ 7200
  unfolding offset_at
  in_summer h g = rw (e, le-leb (summer_from y) s h, lt-ltb s (summer_to y) g)

  pub after_summer : summer_from y ≤ s → summer_to y ≤ s → offset_at s ≡ 3600
  unfolding offset_at
  after_summer h g = rw (e, le-leb (summer_from y) s h, le-ltb s (summer_to y) g)

-- the year of an instant by UTC+1
year_by :
    (s k : ℕ) → k ≤ 903 → day_start (year_start k) ≤ s + 3600 → s + 3600 < day_start (year_start (suc k)) →
    year_at s ≡ 1996 + k
year_by s k f h g =
    let i : ℕ = (s + 3600) / 86400 - 9496 in
    let a : s + 3600 ≡ day_start i + (s + 3600) % 86400 = omega arith in
    let b : (s + 3600) % 86400 < 86400 = omega arith in
    year_at_lem s i ((s + 3600) % 86400) (1996 + k) a b
    (year_is i k (record { few = f; from = omega arith; to = omega arith }))

-- before the calendar the definition takes its first year
year_first : (s : ℕ) → s + 3600 < day_start 0 → year_at s ≡ 1996
unfolding year_at
year_first s h =
    let q : (s + 3600) / 86400 - 9496 ≡ 0 = omega arith in
    let b = year_len_bounds 0 in
    ap (λ (x : ℕ). (date_of x).year) q ∙ year_is 0 0
    (record {
      few = omega arith;
      from = omega (arith, start_none);
      to = omega (arith, start_none, start_suc year_len 0);
    })

module _ (k s : ℕ) (f : k ≤ 903) where
  pub summer_in : summer_from (1996 + k) ≤ s → s < summer_to (1996 + k) → offset_at s ≡ 7200
  summer_in h g = let n = sundays k in in_summer s (1996 + k) (year_by s k f (omega arith) (omega arith)) h g

  -- to the year's end
  winter_end : summer_to (1996 + k) ≤ s → s + 3600 < day_start (year_start (suc k)) → offset_at s ≡ 3600
  winter_end h g = let n = sundays k in after_summer s (1996 + k) (year_by s k f (omega arith) g) (omega arith) h

-- from some days before the year
pub winter_early :
    (k s : ℕ) → k ≤ 903 → day_start (year_start k) ≤ s + 604800 → s < summer_from (1996 + k) → offset_at s ≡ 3600
winter_early k s f a h =
    let n = sundays k in
    elim (dec_le (day_start (year_start k)) (s + 3600)) [
      | yes l ↦ before_summer s (1996 + k) (year_by s k f l (omega arith)) h
      | no l ↦ go k f a h (omega arith)
    ]
  where
    go :
        (k : ℕ) → k ≤ 903 → day_start (year_start k) ≤ s + 604800 → s < summer_from (1996 + k) →
        s + 3600 < day_start (year_start k) → offset_at s ≡ 3600
    go zero f a h l = before_summer s 1996 (year_first s (omega (arith, start_none))) h
    go (suc k) f a h l = let n = sundays k in winter_end k s (omega arith) (omega arith) l

-- to some days after the year, but inside the calendar
pub winter_late :
    (k s : ℕ) → k ≤ 903 → summer_to (1996 + k) ≤ s → s + 3600 < day_start (year_start (suc k)) + 604800 →
    s + 3600 < day_start 330180 → offset_at s ≡ 3600
winter_late k s f h g b =
    elim (dec_lt (s + 3600) (day_start (year_start (suc k)))) [
      | yes l ↦ winter_end k s f h l
      | no l ↦
          elim (dec_le (suc k) 903) [
            | yes m ↦ let n = sundays (suc k) in winter_early (suc k) s m (omega arith) (omega arith)
            | no m ↦ let e : suc k ≡ 904 = omega arith in absurd (omega (arith, start_all, ap year_start e))
          ]
    ]

-- a year whose days, and two more on each side, hold the day with index i
pub record Near (i k : ℕ) : Type 0 where
  pub few : k ≤ 903
  pub from : year_start k ≤ i + 2
  pub to : i < year_start (suc k) + 2

pub own_year : (i : ℕ) → i ≤ last → Near i (year_of i).0
own_year i h = let y = in_year_lem i h in record { few = y.few; from = omega arith; to = omega arith }

-- 146,097 days in 400 years; s is the year's first day, p, q and r the quotients of its closed form
average :
    (s k p q r : ℕ) → s + 483 + q ≡ 365 * k + (p + r) → 4 * p ≤ k + 1995 → k + 1995 < 4 * p + 4 → 100 * q ≤ k + 1995 →
    k + 1995 < 100 * q + 100 → 400 * r ≤ k + 1995 → k + 1995 < 400 * r + 400 →
    (400 * s ≤ 146097 * k + 715) × (146097 * k ≤ 400 * s + 485)
average s k p q r e a b c d f g = (omega arith, omega arith)

by_4 : (y : ℕ) → (4 * (y / 4) ≤ y) × (y < 4 * (y / 4) + 4)
by_4 y = omega arith

by_100 : (y : ℕ) → (100 * (y / 100) ≤ y) × (y < 100 * (y / 100) + 100)
by_100 y = omega arith

by_400 : (y : ℕ) → (400 * (y / 400) ≤ y) × (y < 400 * (y / 400) + 400)
by_400 y = omega arith

start_near : (k : ℕ) → (400 * year_start k ≤ 146097 * k + 715) × (146097 * k ≤ 400 * year_start k + 485)
start_near k =
    let y : ℕ = k + 1995 in
    let a = by_4 y in
    let b = by_100 y in
    let c = by_400 y in
    average (year_start k) k (y / 4) (y / 100) (y / 400) (closed k) a.0 a.1 b.0 b.1 c.0 c.1

by_cycle : (x : ℕ) → (146097 * (x / 146097) ≤ x) × (x < 146097 * (x / 146097) + 146097)
by_cycle x = omega arith

-- the guess, with the quotient as an unknown
guess_near : (i k : ℕ) → i ≤ last → 146097 * k ≤ i * 400 → i * 400 < 146097 * k + 146097 → Near i k
guess_near i k h a b =
    let f = start_near k in
    let g = start_near (suc k) in
    record { few = omega arith; from = omega arith; to = omega arith }

pub guessed : (i : ℕ) → i ≤ last → Near i (i * 400 / 146097)
guessed i h = let a = by_cycle (i * 400) in guess_near i (i * 400 / 146097) h a.0 a.1
