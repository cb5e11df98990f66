-- The Werktage of a year's first days, without a walk over them.
--   count_weekdays   the weekdays of a year's first n days
--   in_year y n      = how many of them are Werktage: less the holidays on weekdays
--   in_year_lem      in_year y n ≡ count (open_in y) n, if the year is usual
--   year_among       among (is_werktag cal) (year_start k) n ≡ in_year (year_numbers k) n, for n ≤ year_len k
--   weeks_few        1 January and q weeks after it have at most 5 q Werktage: 1 January is none
--   year_few         a year has at most 262 Werktage
--   yearly k         = the Werktage of the year 1996 + k, in a form that is quick to compute
--   years_count      the Werktage before a year are those of the years before it
-- for k < 904, years_count up to 904.
-- Source: the definitions of Werktag and Year.
-- Assumes nothing.
use Prim.Native.Nat.{ℕ, zero, suc, ◌+◌, ◌-◌, ◌*◌, ◌/◌, ◌%◌, ◌≤◌, ◌<◌}
use mathlib.Core.Bool.{not}
use mathlib.Core.Path.{◌≡◌, ap, ◌∙◌}
use native.Mathlib.Omega.{arith}
use native.Mathlib.Nat.{add-zero, add-suc}
use native.Mathlib.Decide.{dec_le}
use lib.Dec.{leb}
use borrow.Author.Tests.{le-leb, lt-leb, lt-ltb}
use Rattle.zaehlung.specs.Walk.{bit, among, count}
use Rattle.zaehlung.specs.Lists.{strikes, each}
use Rattle.zaehlung.specs.Blocks.{start}
use Rattle.zaehlung.proofs.Count.{count_none, count_suc, count_step, count_mono, count_among, count_shift, count_cong}
use Rattle.zaehlung.proofs.Striking.{count_strikes}
use Rattle.datum.specs.Calendar.{year_len, year_start}
use Rattle.datum.proofs.Years.{start_none, year_len_bounds}
use Rattle.werktag.specs.declared.HolidayCalendar.{HolidayCalendar}
use Rattle.werktag.specs.declared.HolidayCalendar.TheVariants.{BdewMaKo}
use Rattle.werktag.specs.Werktag.{is_werktag}
use Rattle.jahre.specs.YearNumbers.{YearNumbers}
use Rattle.jahre.specs.Year.{year_numbers, on_weekday, weekdays, holidays}
use Rattle.jahre.proofs.Days.{year_for, year_is, open_in, open_is, index_is, Usual, usual}

-- a Saturday and a Sunday have one more of their kind behind them, every other day as many
sevenths : (m : ℕ) → (m % 7 < 6 → suc m / 7 ≡ m / 7) × (m % 7 ≡ 6 → suc m / 7 ≡ m / 7 + 1)
sevenths m = ((λ h. omega arith), (λ h. omega arith))

next_7 : (m : ℕ) → m % 7 < 6 → suc m % 7 ≡ m % 7 + 1
next_7 m h = omega arith

next_0 : (m : ℕ) → m % 7 ≡ 6 → suc m % 7 ≡ 0
next_0 m h = omega arith

at_most : (m : ℕ) → (m + 1) / 7 + m / 7 ≤ m
at_most m = omega arith

-- the same with the quotients as unknowns
step : (m : ℕ) → weekdays (suc m) ≡ weekdays m + bit (not (leb 5 (m % 7)))
unfolding weekdays
step m =
    let e : suc m + 1 ≡ suc (suc m) = omega arith in
    let e' : m + 1 ≡ suc m = omega arith in
    rw (e, e')
    (elim (dec_le 5 (m % 7)) [
      | yes l ↦
          rw (le-leb 5 (m % 7) l)
          (elim (dec_le 6 (m % 7)) [
            | yes s ↦
                omega (arith, (sevenths m).1 (six m s), (sevenths (suc m)).0 (rw (next_0 m (six m s)) (omega arith)))
            | no s ↦
                omega
                (arith, (sevenths m).0 (omega arith), (sevenths (suc m)).1 (rw (next_7 m (omega arith)) (omega arith)))
          ])
      | no l ↦
          let n : suc m % 7 < 6 = rw (next_7 m (omega arith)) (omega arith) in
          rw (lt-leb 5 (m % 7) (omega arith))
          (omega (arith, (sevenths m).0 (omega arith), (sevenths (suc m)).0 n, rw e' at (at_most m)))
    ])
  where
    six : (m : ℕ) → 6 ≤ m % 7 → m % 7 ≡ 6
    six m h = omega arith

pub count_weekdays : (f n : ℕ) → count (on_weekday f) n + weekdays f ≡ weekdays (f + n)
unfolding on_weekday
count_weekdays f zero = rw add-zero (omega (arith, count_none (on_weekday f)))
count_weekdays f (suc n) = rw add-suc (omega (arith, count_weekdays f n, count_suc (on_weekday f) n, step (f + n)))

unfoldable pub in_year : YearNumbers → ℕ → ℕ
in_year y n = weekdays (y.first + n) - weekdays y.first - each (on_weekday y.first) (holidays y) n

pub in_year_lem : (y : YearNumbers) (n : ℕ) → Usual y → in_year y n ≡ count (open_in y) n
unfolding in_year open_in
in_year_lem y n u =
    let p = on_weekday y.first in
    solve (weekdays (y.first + n)) (weekdays y.first) (each p (holidays y) n) (count p n)
    (count (strikes p (holidays y)) n) (count_weekdays y.first n) (count_strikes p (holidays y) n u.once_each)
  where
    solve : (a b e c d : ℕ) → c + b ≡ a → d + e ≡ c → a - b - e ≡ d
    solve a b e c d h g = omega arith

pub year_among :
    (cal : HolidayCalendar) (k n : ℕ) → k < 904 → n ≤ year_len k →
    among (is_werktag cal) (year_start k) n ≡ in_year (year_numbers k) n
year_among BdewMaKo k n h g =
    let w = is_werktag BdewMaKo in
    let c : count (λ r. w (year_start k + r)) n ≡ count (open_in (year_numbers k)) n =
    count_cong (λ r. w (year_start k + r)) (open_in (year_numbers k)) n
    (λ r l. index_is BdewMaKo k r h (omega arith) ∙ open_is k r h (omega arith)) in
    omega (
      arith,
      count_among w (year_start k) n,
      count_shift w (year_start k) n,
      in_year_lem (year_numbers k) n (usual k h),
    )

-- whole weeks, and the weekdays of no more than 366 days
sevenths_on : (m q : ℕ) → (m + 7 * q) / 7 ≡ m / 7 + q
sevenths_on m q = omega arith

weeks : (f q : ℕ) → weekdays (f + 7 * q) ≡ weekdays f + 5 * q
unfolding weekdays
weeks f q =
    let e : f + 7 * q + 1 ≡ f + 1 + 7 * q = omega arith in
    rw (e, sevenths_on f q, sevenths_on (f + 1) q) (omega (arith, at_most f))

most : (f n : ℕ) → n ≤ 366 → weekdays (f + n) ≤ weekdays f + 262
most f n h =
    let p = on_weekday f in
    omega (
      arith,
      count_weekdays f n,
      count_mono p n 366 h,
      count_step p 365,
      count_step p 364,
      count_weekdays f 364,
      weeks f 52,
    )

-- 1 January is a holiday, so it adds nothing
weeks_in : (y : YearNumbers) (q : ℕ) → in_year y (7 * q + 1) ≤ 5 * q
unfolding in_year on_weekday holidays each
weeks_in y q =
    let f = y.first in
    let e : f + (7 * q + 1) ≡ suc (f + 7 * q) = omega arith in
    let a = ap weekdays e in
    let b = lt-ltb 0 (7 * q + 1) (omega arith) in
    let r : (f + 7 * q) % 7 ≡ (f + 0) % 7 = same f q in
    let c = ap (λ (x : ℕ). bit (not (leb 5 x))) r in
    rw b (omega (arith, step (f + 7 * q), weeks f q))
  where
    same : (f q : ℕ) → (f + 7 * q) % 7 ≡ (f + 0) % 7
    same f q = omega arith

pub weeks_few :
    (cal : HolidayCalendar) (k q : ℕ) → k < 904 → 7 * q + 1 ≤ year_len k →
    among (is_werktag cal) (year_start k) (7 * q + 1) ≤ 5 * q
weeks_few cal k q h g = omega (arith, year_among cal k (7 * q + 1) h g, weeks_in (year_numbers k) q)

pub year_few : (cal : HolidayCalendar) (k : ℕ) → k < 904 → among (is_werktag cal) (year_start k) (year_len k) ≤ 262
unfolding in_year
year_few cal k h =
    let f = (year_numbers k).first in
    omega
    (arith, year_among cal k (year_len k) h (omega arith), most f (year_len k) (omega (arith, year_len_bounds k)))

abbrev pub yearly : ℕ → ℕ
yearly k = in_year (year_for k) (year_len k)

pub years_count : (cal : HolidayCalendar) (k : ℕ) → k ≤ 904 → count (is_werktag cal) (year_start k) ≡ start yearly k
unfolding start
years_count cal zero h = rw start_none (count_none (is_werktag cal))
years_count cal (suc k) h =
    let y = ap (λ (x : YearNumbers). in_year x (year_len k)) (year_is k) in
    let c = count_among (is_werktag cal) (year_start k) (year_len k) in
    omega (arith, years_count cal k (omega arith), year_among cal k (year_len k) h (omega arith))
