-- What the proofs of this crate's functions cite: a lemma for each return and each turn of a loop, with premises in the
-- form in which they stand there.
-- Assumes nothing.
use Prim.Native.Nat.{ℕ, zero, suc, ◌+◌, ◌*◌, ◌-◌, ◌/◌, ◌%◌, ◌≤◌, ◌<◌}
use mathlib.Core.Bool.{Bool, true, false, not, ◌&&◌, ◌||◌}
use mathlib.Core.Path.{◌≡◌, refl, sym, ap, ap₂, ◌∙◌}
use native.Mathlib.Omega.{arith}
use native.Mathlib.Decide.{dec_lt}
use lib.Dec.{eqb, leb}
use lib.ListN.{get_or-eq_default}
use mir.Syntax.{w8, w32}
use mir.Val.{Fits}
use borrow.Author.Tests.{eqb-true, leb-true, ne_eqb, le-leb}
use Rattle.zaehlung.specs.Walk.{bit, last}
use Rattle.zaehlung.specs.Blocks.{start, at}
use Rattle.zaehlung.proofs.BlockLaws.{at_sum, at_below}
use Rattle.datum.specs.declared.Date.{Date}
use Rattle.datum.specs.Calendar.{is_leap, year_start, year_of, months, days_in_month, month_start, month_of, date_in}
use Rattle.datum.specs.Calendar.{date_of, days_before, index_of, is_date}
use Rattle.datum.specs.Number.{number_of, parts_of}
use Rattle.zaehlung.proofs.Every.{run, run_at}
use Rattle.zaehlung.proofs.Tests.{and_left, and_right, and_yes, agree, agree_is}
use Rattle.datum.proofs.Years.{closed, year_found, year_le, start_none}
use Rattle.datum.proofs.Dates.{len_le, months_sum, month_first}
use Rattle.datum.proofs.Dates.{valid_is, is_valid, len_ge, index_below, index_date, year_below}
use Rattle.std.specs.Prelude.{Some, None}

-- is_leap: what 4 and 16 say of a multiple of 25
mult_25 : (y : ℕ) → y % 25 ≡ 0 → y ≡ 25 * (y / 25)
mult_25 y h = omega arith

by_4 : (k : ℕ) → (25 * k) % 4 ≡ k % 4
by_4 k = omega arith

multiple_16 : (a b : ℕ) → (16 * a + b) % 16 ≡ b % 16
multiple_16 a b = omega arith

by_16 : (k : ℕ) → (25 * k) % 16 ≡ (25 * (k % 16)) % 16
by_16 k =
    let e : 25 * k ≡ 16 * (25 * (k / 16)) + 25 * (k % 16) = omega arith in
    rw e (multiple_16 (25 * (k / 16)) (25 * (k % 16)))

by_100 : (k : ℕ) → (25 * k) % 100 ≡ 25 * (k % 4)
by_100 k = omega arith

by_400 : (k : ℕ) → (25 * k) % 400 ≡ 25 * (k % 16)
by_400 k = omega arith

-- the four tests of k % 16, for every remainder
tests_16 : ℕ → Bool
tests_16 r =
    agree (eqb ((25 * r) % 16) 0) (eqb (r % 4) 0 && (not (eqb (25 * (r % 4)) 0) || eqb (25 * r) 0))

all_16 : run tests_16 16 0 ≡ true
unfolding run tests_16 agree
all_16 = refl

by_remainder : (k : ℕ) → k % 4 ≡ k % 16 % 4
by_remainder k = omega arith

below_16 : (k : ℕ) → k % 16 < 16
below_16 k = omega arith

leap_of_25 : (k : ℕ) → eqb ((25 * k) % 16) 0 ≡ is_leap (25 * k)
unfolding is_leap tests_16
leap_of_25 k =
    let r = k % 16 in
    let t = run_at tests_16 16 0 all_16 r (omega arith) (below_16 k) in
    rw (by_16 k, by_4 k, by_100 k, by_400 k, by_remainder k) (agree_is _ _ t)

pub leap_25 : (y : ℕ) → y % 25 ≡ 0 → eqb (y % 16) 0 ≡ is_leap y
leap_25 y h = rw (mult_25 y h) (leap_of_25 (y / 25))

not_100 : (y : ℕ) → (y % 25 ≡ 0 → ⊥) → y % 100 ≡ 0 → ⊥
not_100 y h e = h (omega arith)

pub leap_other : (y : ℕ) → (y % 25 ≡ 0 → ⊥) → eqb (y % 4) 0 ≡ is_leap y
unfolding is_leap
leap_other y h = rw (ne_eqb (y % 100) 0 (not_100 y h)) (sym (and_yes (eqb (y % 4) 0)))

-- days_in_month
pub len_none : (l : Bool) (m : ℕ) → 12 < m → 0 ≡ days_in_month l m
unfolding days_in_month
len_none l m h = sym (get_or-eq_default (months l) 0 h)

pub len_leap : (l : Bool) (m : ℕ) → m ≡ 2 → l ≡ true → 29 ≡ days_in_month l m
unfolding days_in_month
len_leap l m e t = rw (e, t)

pub len_february : (l : Bool) (m : ℕ) → m ≡ 2 → l ≡ false → 28 ≡ days_in_month l m
unfolding days_in_month
len_february l m e t = rw (e, t)

-- every other month, in a common year and in a leap year
odd_test : Bool → ℕ → Bool
odd_test l m = eqb m 2 || eqb (30 + (m + m / 8) % 2) (days_in_month l m)

all_odd : (l : Bool) → run (odd_test l) 12 1 ≡ true
unfolding run odd_test days_in_month
all_odd true = refl
all_odd false = refl

pub len_other :
    (l : Bool) (m : ℕ) → 1 ≤ m → m ≤ 12 → (m ≡ 2 → ⊥) → 30 + (m + m / 8) % 2 ≡ days_in_month l m
unfolding odd_test
len_other l m a b h =
    let t = run_at (odd_test l) 12 1 (all_odd l) m (omega arith) (omega arith) in
    eqb-true (30 + (m + m / 8) % 2) (days_in_month l m) (rw (ne_eqb m 2 h) at t)

pub len_zero : (l : Bool) (m : ℕ) → m < 1 → 0 ≡ days_in_month l m
unfolding days_in_month
len_zero l zero h = refl
len_zero l (suc m) h = absurd (omega arith)

-- month_start, for every month
abbrev even : ℕ → ℕ
even m = (367 * m - 362) / 12

-- x is what is taken off
starts_test : Bool → ℕ → ℕ → Bool
starts_test l x m = eqb (even m - x) (month_start l m) && (leb x (even m) && leb (even m - x) 366)

early : (l : Bool) → run (starts_test l 0) 2 1 ≡ true
unfolding run starts_test start days_in_month
early true = refl
early false = refl

late_leap : run (starts_test true 1) 11 3 ≡ true
unfolding run starts_test start days_in_month
late_leap = refl

late_common : run (starts_test false 2) 11 3 ≡ true
unfolding run starts_test start days_in_month
late_common = refl

record Starts (l : Bool) (x m : ℕ) : Type 0 where
  pub is : even m - x ≡ month_start l m
  pub by : x ≤ even m
  pub few : even m - x ≤ 366

starts_is : (l : Bool) (x m : ℕ) → starts_test l x m ≡ true → Starts l x m
unfolding starts_test
starts_is l x m t =
    let u = and_right (eqb (even m - x) (month_start l m)) _ t in
    record {
      is = eqb-true (even m - x) (month_start l m) (and_left (eqb (even m - x) (month_start l m)) _ t);
      by = leb-true x (even m) (and_left (leb x (even m)) (leb (even m - x) 366) u);
      few = leb-true (even m - x) 366 (and_right (leb x (even m)) (leb (even m - x) 366) u);
    }

at_early : (l : Bool) (m : ℕ) → 1 ≤ m → m < 3 → Starts l 0 m
at_early l m a b = starts_is l 0 m (run_at (starts_test l 0) 2 1 (early l) m (omega arith) (omega arith))

at_late : (l : Bool) (x m : ℕ) → run (starts_test l x) 11 3 ≡ true → 3 ≤ m → m ≤ 13 → Starts l x m
at_late l x m t a b = starts_is l x m (run_at (starts_test l x) 11 3 t m (omega arith) (omega arith))

module _ (l : Bool) (m : ℕ) (b : m ≤ 13) where
  pub start_early : 1 ≤ m → m < 3 → even m ≡ month_start l m
  start_early a h = omega (arith, (at_early l m a h).is)

  pub start_early_few : 1 ≤ m → m < 3 → even m ≤ 366
  start_early_few a h = omega (arith, (at_early l m a h).few)

  -- l is known
  of_leap : l ≡ true → 3 ≤ m → Starts l 1 m
  of_leap e h = rw e (at_late true 1 m late_leap h b)

  of_common : l ≡ false → 3 ≤ m → Starts l 2 m
  of_common e h = rw e (at_late false 2 m late_common h b)

  pub start_leap : l ≡ true → 3 ≤ m → even m - 1 ≡ month_start l m
  start_leap e h = (of_leap e h).is

  pub start_leap_by : l ≡ true → 3 ≤ m → 1 ≤ even m
  start_leap_by e h = (of_leap e h).by

  pub start_leap_few : l ≡ true → 3 ≤ m → even m - 1 ≤ 366
  start_leap_few e h = (of_leap e h).few

  pub start_common : l ≡ false → 3 ≤ m → even m - 2 ≡ month_start l m
  start_common e h = (of_common e h).is

  pub start_common_by : l ≡ false → 3 ≤ m → 2 ≤ even m
  start_common_by e h = (of_common e h).by

  pub start_common_few : l ≡ false → 3 ≤ m → even m - 2 ≤ 366
  start_common_few e h = (of_common e h).few

pub ruleset start_rules = (
  start_early,
  start_early_few,
  start_leap,
  start_leap_by,
  start_leap_few,
  start_common,
  start_common_by,
  start_common_few,
)

-- year_start
solve : (s p q r k : ℕ) → s + 483 + q ≡ 365 * k + (p + r) → q ≤ p → 365 * k + (p + r - q) - 483 ≡ s
solve s p q r k e h = omega arith

fewer : (y : ℕ) → y / 100 ≤ y / 4
fewer y = omega arith

pub start_is : (k : ℕ) → 365 * k + ((k + 1995) / 4 + (k + 1995) / 400 - (k + 1995) / 100) - 483 ≡ year_start k
start_is k = solve (year_start k) ((k + 1995) / 4) ((k + 1995) / 100) ((k + 1995) / 400) k (closed k) (fewer (k + 1995))

-- year_of: s is what `year_start` returned. A year that starts after a day is not the first
pub not_first : (i k s : ℕ) → s ≡ year_start k → i < s → 0 < k
not_first i k s e h = elim (dec_lt 0 k) [
  | yes l ↦ l
  | no l ↦ absurd
      (let z : k ≡ 0 = omega arith in omega (arith, ap year_start z, start_none))
]

pub falls : (i k s : ℕ) → s ≡ year_start k → i < s → k - 1 < k
falls i k s e h = let l = not_first i k s e h in omega arith

-- a year that starts by a day of the calendar is one of it
pub again : (i k s : ℕ) → i ≤ last → s ≡ year_start (k + 1) → s ≤ i → k + 1 ≤ 903
again i k s h e g = year_le i (k + 1) h (omega arith)

pub year_is : (i k s : ℕ) → i ≤ last → year_start k ≤ i → s ≡ year_start (k + 1) → i < s → k ≡ (year_of i).0
year_is i k s h a e b = sym (ap (λ (p : ℕ × ℕ). p.0) (year_found i k h a (omega arith)))

pub year_day :
    (i k s t : ℕ) → i ≤ last → year_start k ≤ i → s ≡ year_start (k + 1) → i < s → t ≡ year_start k →
    i - t ≡ (year_of i).1
year_day i k s t h a e b f = let q = ap (λ (p : ℕ × ℕ). p.1) (year_found i k h a (omega arith)) in omega arith

pub ruleset year_rules = (not_first, falls, again, year_is, year_day)

bit_le : (b : Bool) → bit b ≤ 1
bit_le true = omega arith
bit_le false = omega arith

-- month_of, for every day: x is by how much the day of the year of 367 days is later
abbrev month_367 : ℕ → ℕ
month_367 r = (12 * r + 373) / 367

month_test : Bool → ℕ → ℕ → Bool
month_test l x r =
    eqb (month_367 (r + x)) (month_of l r).0 && (leb 1 (month_367 (r + x)) && leb (month_367 (r + x)) 12)

january : (l : Bool) → run (month_test l 0) (59 + bit l) 0 ≡ true
unfolding run month_test at days_in_month
january true = refl
january false = refl

march_leap : run (month_test true 1) 306 60 ≡ true
unfolding run month_test at days_in_month
march_leap = refl

march_common : run (month_test false 2) 306 59 ≡ true
unfolding run month_test at days_in_month
march_common = refl

module _ (l : Bool) (r m : ℕ) where
  abbrev Month : Type 0
  Month = (m ≡ (month_of l r).0) × (1 ≤ m) × (m ≤ 12)

  month_in : (x : ℕ) → month_test l x r ≡ true → m ≡ month_367 (r + x) → Month
  unfolding month_test
  month_in x t e =
      let y = month_367 (r + x) in
      let u = and_right (eqb y (month_of l r).0) _ t in
      let a = eqb-true y (month_of l r).0 (and_left (eqb y (month_of l r).0) _ t) in
      let b = leb-true 1 y (and_left (leb 1 y) (leb y 12) u) in
      let d = leb-true y 12 (and_right (leb 1 y) (leb y 12) u) in
      (e ∙ a, omega (arith, e), omega (arith, e))

  pub month_early : r < 59 + bit l → m ≡ month_367 r → Month
  month_early h q =
      let z : r + 0 ≡ r = omega arith in
      month_in 0 (run_at (month_test l 0) (59 + bit l) 0 (january l) r (omega arith) (omega arith)) (rw z q)

  pub month_early_leap : l ≡ true → r < 60 → m ≡ month_367 r → Month
  month_early_leap e h q = month_early (omega (arith, ap bit e)) q

  pub month_early_common : l ≡ false → r < 59 → m ≡ month_367 r → Month
  month_early_common e h q = month_early (omega (arith, ap bit e)) q

  pub month_late_leap : l ≡ true → 60 ≤ r → r < 365 + bit l → m ≡ month_367 (r + 1) → Month
  month_late_leap e h g q =
      month_in 1
      (rw e (run_at (month_test true 1) 306 60 march_leap r (omega arith) (omega (arith, ap bit e)))) q

  pub month_late_common : l ≡ false → 59 ≤ r → r < 365 + bit l → m ≡ month_367 (r + 2) → Month
  month_late_common e h g q =
      month_in 2
      (rw e (run_at (month_test false 2) 306 59 march_common r (omega arith) (omega (arith, ap bit e)))) q

pub day_367 : (l : Bool) (r : ℕ) → l ≡ true → r < 365 + bit l → r + 1 ≤ 366
day_367 l r e h = omega (arith, ap bit e)

pub day_367_common : (l : Bool) (r : ℕ) → l ≡ false → r < 365 + bit l → r + 2 ≤ 366
day_367_common l r e h = omega (arith, ap bit e)

pub day_few : (l : Bool) (r x : ℕ) → r < 365 + bit l → x ≤ 2 → Fits w32 (r + x)
day_few l r x h g = record { fits = omega (arith, bit_le l) }

pub ruleset month_rules =
    (month_early_leap, month_early_common, month_late_leap, month_late_common, day_367, day_367_common, day_few)

-- days_before
module _ (d : Date) (v : is_date d ≡ true) where
  pub year_by : 1996 ≤ d.year
  year_by = (valid_is d v).from

  pub month_from_1 : 1 ≤ d.month
  month_from_1 = (valid_is d v).month_from

  pub year_few : d.year - 1996 ≤ 904
  year_few = omega (arith, (valid_is d v).to)

  pub month_by_13 : d.month ≤ 13
  month_by_13 = omega (arith, (valid_is d v).month_to)

  pub day_some : 1 ≤ d.day
  day_some = (valid_is d v).day_from

  pub days_are :
      (l : Bool) (s t : ℕ) → l ≡ is_leap d.year → s ≡ year_start (d.year - 1996) → t ≡ month_start l d.month →
      s + t + (d.day - 1) ≡ days_before d
  days_are l s t g p q = rw (← g, p, q)

  pub days_few :
      (l : Bool) (s t : ℕ) → l ≡ is_leap d.year → s ≡ year_start (d.year - 1996) → t ≡ month_start l d.month →
      s + t + (d.day - 1) ≤ last
  days_few l s t g p q = omega (arith, days_are l s t g p q, index_below d (valid_is d v))

pub ruleset days_rules = (year_by, year_few, month_from_1, month_by_13, day_some, days_are, days_few)

-- is_date: a day that every month has
pub in_every_month :
    (d : Date) → 1996 ≤ d.year → d.year ≤ 2899 → 1 ≤ d.month → d.month ≤ 12 → 1 ≤ d.day → d.day ≤ 28 →
    leb d.day 28 ≡ is_date d
in_every_month d a b c e f h =
    le-leb d.day 28 h
    ∙ sym (is_valid d (record {
      from = a;
      to = b;
      month_from = c;
      month_to = e;
      day_from = f;
      day_to = omega (arith, len_ge (is_leap d.year) d.month c e);
    }))

-- index_of: b is what `is_date` returned, r what `days_before` did
module _ (d : Date) (b : Bool) (g : b ≡ is_date d) where
  pub is_asked : b ≡ true → is_date d ≡ true
  is_asked t = sym g ∙ t

  pub has_day : (r : ℕ) → b ≡ true → r ≡ days_before d → Some r ≡ index_of d
  unfolding index_of
  has_day r t e = rw (is_asked t, e)

  pub no_date_lem : b ≡ false → None ≡ index_of d
  unfolding index_of
  no_date_lem t = rw (sym g ∙ t)

pub ruleset index_rules = (is_asked, has_day, no_date_lem)

-- date_of: y and x are the year and the day in it that `year_of` returned
module _ (i y x : ℕ) (h : i ≤ last) (e : y ≡ (year_of i).0) (f : x ≡ (year_of i).1) (l : Bool)
    (g : l ≡ is_leap (1996 + y))
  where
    pub day_in_year : x < 365 + bit l
    day_in_year = rw (g, e, f) (year_below i h)

    module _ (m s : ℕ) (p : m ≡ (month_of l x).0) (q : s ≡ month_start l m) where
      parts : (s + (month_of l x).1 ≡ x) × ((month_of l x).1 < days_in_month l m) × ((month_of l x).1 < 31)
      parts =
          let d = day_in_year in
          let a = at_sum (days_in_month l) 11 1 x in
          let b = at_below (days_in_month l) 11 1 x (omega (arith, months_sum l, month_first l)) in
          let c = ap (month_start l) p in
          let k = ap (days_in_month l) p in
          let n = len_le l m in
          omega (arith, month_first l)

      pub month_by : s ≤ x
      month_by = omega (arith, parts)

      pub day_fits : Fits w8 (x - s + 1)
      day_fits = record { fits = omega (arith, parts) }

      pub day_fits_32 : Fits w32 (x - s + 1)
      day_fits_32 = record { fits = omega (arith, parts) }

      pub date_is : ◌≡◌ {A = Date} (record { year = 1996 + y; month = m; day = x - s + 1 }) (date_of i)
      unfolding date_of date_in
      date_is =
          let d : x - s ≡ (month_of l x).1 = omega (arith, parts) in
          let b : ◌≡◌ {A = Date} (record { year = 1996 + y; month = m; day = x - s + 1 }) (date_in y x) = rw (
            d,
            p,
            g,
          ) in
          b ∙ ap₂ date_in e f

pub ruleset date_rules = (day_in_year, month_by, day_fits, day_fits_32, date_is)

-- date_number, date_of: a date and its number
year_part : (y m d : ℕ) → y ≤ 2899 → (y + 65536 * m + 16777216 * d) % 65536 ≡ y
year_part y m d g = omega arith

above_year : (y m d : ℕ) → y ≤ 2899 → (y + 65536 * m + 16777216 * d) / 65536 ≡ m + 256 * d
above_year y m d g = omega arith

below_day : (m d : ℕ) → m ≤ 12 → (m + 256 * d) % 256 ≡ m
below_day m d k = omega arith

day_part : (y m d : ℕ) → y ≤ 2899 → m ≤ 12 → (y + 65536 * m + 16777216 * d) / 16777216 ≡ d
day_part y m d g k = omega arith

parted : (d : Date) → d.year ≤ 2899 → d.month ≤ 12 → parts_of (number_of d) ≡ d
parted d g k =
    rw (
      year_part d.year d.month d.day g,
      above_year d.year d.month d.day g,
      below_day d.month d.day k,
      day_part d.year d.month d.day g k,
    )

module _ (i : ℕ) (h : i ≤ last) where
  abbrev of_index : Date
  of_index = date_of i

  in_range_lem : (of_index.year ≤ 2899) × (of_index.month ≤ 12) × (of_index.day ≤ 31)
  in_range_lem =
      let v = (index_date i h).0 in
      (v.to, v.month_to, omega (arith, v.day_to, len_le (is_leap of_index.year) of_index.month))

  pub number_is : (d : Date) → d ≡ date_of i → number_of d ≡ number_of (date_of i)
  number_is d e = ap number_of e

  pub number_fits : (d : Date) → d ≡ date_of i → Fits w32 (number_of d)
  number_fits d e = rw e (record { fits = omega (arith, in_range_lem) })

  pub parts_are : (n : ℕ) (r : Date) → n ≡ number_of (date_of i) → r ≡ parts_of n → r ≡ date_of i
  parts_are n r e p = p ∙ ap parts_of e ∙ parted of_index in_range_lem.0 in_range_lem.1

pub ruleset number_rules = (number_is, number_fits, parts_are)
