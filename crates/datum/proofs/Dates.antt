-- A date of the range and its index: what the definitions of Calendar give, field by field. `Valid` is handed on.
--   valid_is        the test says that a date is one of the range; is_valid is the converse
--   all_le b xs     = whether each number of xs is at most b; at_most says so of each place
--   len_le len_ge   a month has at most 31 days, and at least 28
--   start_month     no more than 31 days for each month passed lie before a month
--   month_found     a month that starts by a day, and whose next starts after it, is the day's
--   year_len_at      the days of a year, by its own number
--   date_index      the date at the index of a date of the range is that date
--   index_date      the date at an index of the calendar is a date of the range, and lies at that index
--   index_below     the index of a date of the range is one of the calendar
-- Source: document 01, first paragraph.
-- Assumes nothing.
use Prim.Native.Nat.{ℕ, zero, suc, ◌+◌, ◌-◌, ◌*◌, ◌≤◌, ◌<◌}
use mathlib.Core.Bool.{Bool, true, false, ◌&&◌}
use mathlib.Core.List.{List, [], ◌∷◌}
use mathlib.Core.Path.{◌≡◌, refl, sym}
use native.Mathlib.Omega.{arith}
use native.Mathlib.Numerals.{add-one}
use lib.Dec.{leb}
use lib.ListN.{get_or}
use borrow.Author.Tests.{leb-true, le-leb}
use Rattle.zaehlung.specs.Walk.{bit, last}
use Rattle.zaehlung.proofs.Tests.{and_left, and_right}
use Rattle.zaehlung.proofs.Every.{run, run_at}
use Rattle.zaehlung.specs.Blocks.{start}
use Rattle.zaehlung.proofs.BlockLaws.{start_suc, start_mono, at_is, at_sum, at_below}
use Rattle.datum.specs.declared.Date.{Date}
use Rattle.datum.specs.Calendar.{is_leap, year_len, year_start, year_of, months, days_in_month, month_start, month_of}
use Rattle.datum.specs.Calendar.{date_in, date_of, days_before, is_date}
use Rattle.datum.proofs.Years.{start_all, start_none}
pub use Rattle.datum.specs.RoundTrip.{Valid}

pub valid_is : (d : Date) → is_date d ≡ true → Valid d
unfolding is_date
valid_is d t =
    let a = and_right (leb 1996 d.year) _ t in
    let b = and_right (leb d.year 2899) _ a in
    let c = and_right (leb 1 d.month) _ b in
    let e = and_right (leb d.month 12) _ c in
    record {
      from = leb-true 1996 d.year (and_left (leb 1996 d.year) _ t);
      to = leb-true d.year 2899 (and_left (leb d.year 2899) _ a);
      month_from = leb-true 1 d.month (and_left (leb 1 d.month) _ b);
      month_to = leb-true d.month 12 (and_left (leb d.month 12) _ c);
      day_from = leb-true 1 d.day (and_left (leb 1 d.day) _ e);
      day_to = leb-true d.day (days_in_month (is_leap d.year) d.month) (and_right (leb 1 d.day) _ e);
    }

pub is_valid : (d : Date) → Valid d → is_date d ≡ true
unfolding is_date
is_valid d v =
    rw (
      le-leb 1996 d.year v.from,
      le-leb d.year 2899 v.to,
      le-leb 1 d.month v.month_from,
      le-leb d.month 12 v.month_to,
      le-leb 1 d.day v.day_from,
    )
    (le-leb d.day (days_in_month (is_leap d.year) d.month) v.day_to)

-- each number of a list is at most b, as a test that computes
unfoldable pub all_le : ℕ → List ℕ → Bool
all_le b [] = true
all_le b (x ∷ xs) = leb x b && all_le b xs

pub at_most : (b : ℕ) (xs : List ℕ) → all_le b xs ≡ true → (m : ℕ) → get_or xs m 0 ≤ b
unfolding all_le
at_most b [] t m = omega arith
at_most b (x ∷ xs) t zero = leb-true x b (and_left (leb x b) (all_le b xs) t)
at_most b (x ∷ xs) t (suc m) = at_most b xs (and_right (leb x b) (all_le b xs) t) m

pub len_le : (l : Bool) (m : ℕ) → days_in_month l m ≤ 31
unfolding days_in_month all_le
len_le true m = at_most 31 (months true) refl m
len_le false m = at_most 31 (months false) refl m

long : Bool → ℕ → Bool
long l m = leb 28 (days_in_month l m)

all_long : (l : Bool) → run (long l) 12 1 ≡ true
unfolding run long days_in_month
all_long true = refl
all_long false = refl

pub len_ge : (l : Bool) (m : ℕ) → 1 ≤ m → m ≤ 12 → 28 ≤ days_in_month l m
unfolding long
len_ge l m a b = leb-true 28 (days_in_month l m) (run_at (long l) 12 1 (all_long l) m (omega arith) (omega arith))

-- the twelve months make the year
pub months_sum : (l : Bool) → month_start l 13 ≡ 365 + bit l
unfolding start days_in_month
months_sum true = refl
months_sum false = refl

pub month_first : (l : Bool) → month_start l 1 ≡ 0
unfolding start days_in_month
month_first l = refl

pub start_month : (l : Bool) (j : ℕ) → month_start l (suc j) ≤ 31 * j
start_month l zero = omega (arith, month_first l)
start_month l (suc j) = omega (arith, start_month l j, start_suc (days_in_month l) (suc j), len_le l (suc j))

pub month_found :
    (l : Bool) (r m : ℕ) → 1 ≤ m → m ≤ 12 → month_start l m ≤ r → r < month_start l (m + 1) →
    month_of l r ≡ (m, r - month_start l m)
month_found l r m g h a b =
    let n = start_suc (days_in_month l) m in
    let c : r < month_start l (suc m) = rw add-one at b in
    at_is (days_in_month l) 11 1 m r (r - month_start l m) g h (omega (arith, month_first l)) (omega arith)

-- the day of the year, from 0
in_year_lem : (l : Bool) (m d : ℕ) → m ≤ 12 → 1 ≤ d → d ≤ days_in_month l m → month_start l m + (d - 1) < 365 + bit l
in_year_lem l m d h a b =
    omega (arith, start_suc (days_in_month l) m, start_mono (days_in_month l) (suc m) 13 (omega arith), months_sum l)

pub year_len_at : (y k : ℕ) → y ≡ 1996 + k → year_len k ≡ 365 + bit (is_leap y)
unfolding year_len
year_len_at y k e = rw e

pub date_index : (d : Date) → Valid d → date_of (days_before d) ≡ d
unfolding date_of date_in
date_index d v =
    let y : ℕ = d.year in
    let m : ℕ = d.month in
    let k : ℕ = y - 1996 in
    let l : Bool = is_leap y in
    let s : ℕ = month_start l m + (d.day - 1) in
    let e : 1996 + k ≡ y = omega (arith, v.from) in
    let i : ℕ = year_start k + month_start l m + (d.day - 1) in
    let n : s < year_len k = omega (
      arith,
      in_year_lem l m d.day v.month_to v.day_from v.day_to,
      year_len_at y k (sym e),
    ) in
    let q : year_of i ≡ (k, s) = at_is year_len 903 0 k i s (omega arith) (omega (arith, v.to))
    (omega (arith, start_none)) n in
    let p : month_of l s ≡ (m, d.day - 1) = at_is (days_in_month l) 11 1 m s (d.day - 1) v.month_from v.month_to
    (omega (arith, month_first l)) (omega (arith, v.day_from, v.day_to)) in
    let u : d.day - 1 + 1 ≡ d.day = omega (arith, v.day_from) in
    rw (q, e, p, u)

pub index_below : (d : Date) → Valid d → days_before d ≤ last
index_below d v =
    let k : ℕ = d.year - 1996 in
    let e : d.year ≡ 1996 + k = omega (arith, v.from) in
    let a = in_year_lem (is_leap d.year) d.month d.day v.month_to v.day_from v.day_to in
    let b = year_len_at d.year k e in
    let c = start_suc year_len k in
    let f = start_mono year_len (suc k) 904 (omega (arith, v.to)) in
    omega (arith, start_all)

-- the day in its year is a day of the year
pub year_below : (i : ℕ) → i ≤ last → (year_of i).1 < 365 + bit (is_leap (1996 + (year_of i).0))
year_below i h =
    let b : (year_of i).1 < year_len (year_of i).0 = at_below year_len 903 0 i (omega (arith, start_all, start_none)) in
    omega (arith, year_len_at (1996 + (year_of i).0) (year_of i).0 refl)

pub index_date : (i : ℕ) → i ≤ last → Valid (date_of i) × (days_before (date_of i) ≡ i)
unfolding date_of date_in
index_date i h =
    let y = year_of i in
    let k : ℕ = y.0 in
    let l : Bool = is_leap (1996 + k) in
    let a = at_sum year_len 903 0 i in
    let b = year_below i h in
    let m = month_of l y.1 in
    let c = at_sum (days_in_month l) 11 1 y.1 in
    let e : m.1 < days_in_month l m.0 = at_below (days_in_month l) 11 1 y.1
    (omega (arith, months_sum l, month_first l)) in
    let z : 1996 + k - 1996 ≡ k = omega arith in (
      record {
        from = omega arith;
        to = omega arith;
        month_from = omega arith;
        month_to = omega arith;
        day_from = omega arith;
        day_to = omega arith;
      },
      rw z (omega (arith, month_first l, start_none)),
    )
