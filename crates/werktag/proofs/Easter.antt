-- The Anonymous Gregorian algorithm in the calendar's years: no difference in it goes below 0, and it gives a Sunday of
-- March or April.
--   enough, room       the difference under l does not go below 0
--   n_bounds           n lies from 114 to 148, so the date from 22 March to 25 April
--   easter_valid       Easter Sunday is a date of the range
--   number y           = n, from the year y
--   easter_number      Easter Sunday lies n - 93 days after 1 March
--   easter_from, easter_to   it is from 22 March to 25 April
--   day_in l m d       = day d of month m as a day of the year, from 0 on
--   easter_in y        = Easter Sunday of the year y, the same
--   easter_is          its index, by the year's start
--   first_of k          = the weekday of 1 January of the year 1996 + k, without a walk over the years
--   weekday_in         the weekday of a day of the year, by that of its first
--   easter_on_sunday   Easter Sunday is a Sunday, and
--   easter_between     day 80 to 116 of its year, from 0 on; both computed for every year
-- omega takes the remainders one at a time, so each bound has a lemma of its own.
-- Assumes nothing.
use Prim.Native.Nat.{ℕ, zero, suc, ◌+◌, ◌-◌, ◌*◌, ◌/◌, ◌%◌, ◌≤◌, ◌<◌}
use mathlib.Core.Bool.{Bool, true, ◌&&◌}
use mathlib.Core.Path.{◌≡◌, refl, ap, subst}
use native.Mathlib.Omega.{arith}
use lib.Dec.{eqb, leb}
use borrow.Author.Tests.{eqb-true, leb-true}
use mir.Syntax.{w32}
use mir.Val.{Fits}
use Rattle.zaehlung.specs.Walk.{last}
use Rattle.zaehlung.specs.Blocks.{start}
use Rattle.zaehlung.proofs.BlockLaws.{start_suc}
use Rattle.zaehlung.proofs.Every.{run, run_at}
use Rattle.datum.specs.declared.Date.{Date}
use Rattle.datum.specs.Calendar.{is_date, is_leap, days_in_month, month_start, year_start, days_before, weekday}
use Rattle.zaehlung.proofs.Tests.{and_left, and_right}
use Rattle.datum.proofs.Dates.{Valid, valid_is, is_valid, index_below}
use Rattle.datum.proofs.Rules.{start_is}
use Rattle.werktag.specs.Easter.{easter_sunday, easter_index}
use Rattle.werktag.specs.EasterDay.{EasterFromMarch22, EasterToApril25}

pub enough : (x y : ℕ) → y % 4 ≤ 32 + 2 * x + 2 * (y / 4) - 29
enough x y = omega arith

pub room : (a b t : ℕ) → a ≤ t - 29 → b < 30 → a ≤ t - b
room a b t h g = omega arith

pub below_30 : (x : ℕ) → x % 30 < 30
below_30 x = omega arith

pub below_7 : (x : ℕ) → x % 7 < 7
below_7 x = omega arith

below_19 : (x : ℕ) → x % 19 < 19
below_19 x = omega arith

-- n, from a, h and l
abbrev n : ℕ → ℕ → ℕ → ℕ
n a h l = h + l + 114 - 7 * ((a + 11 * h + 22 * l) / 451)

n_bounds : (a h l : ℕ) → a < 19 → h < 30 → l < 7 → (114 ≤ n a h l) × (n a h l ≤ 148)
n_bounds a h l p q r = (omega arith, omega arith)

days : (l : Bool) → (days_in_month l 3 ≡ 31) × (days_in_month l 4 ≡ 30)
unfolding days_in_month
days l = (refl, refl)

-- the date with n from 114 to 148
dated :
    (y x : ℕ) → 1996 ≤ y → y ≤ 2899 → 114 ≤ x → x ≤ 148 → Valid (record { year = y; month = x / 31; day = x % 31 + 1 })
dated y x a b p q = go (x / 31) refl
  where
    go : (m : ℕ) → x / 31 ≡ m → Valid (record { year = y; month = x / 31; day = x % 31 + 1 })
    go zero e = absurd (omega arith)
    go (suc zero) e = absurd (omega arith)
    go (suc (suc zero)) e = absurd (omega arith)
    go (suc (suc (suc zero))) e =
        let k = ap (days_in_month (is_leap y)) e in
        record {
          from = a;
          to = b;
          month_from = omega arith;
          month_to = omega arith;
          day_from = omega arith;
          day_to = omega (arith, days (is_leap y));
        }
    go (suc (suc (suc (suc zero)))) e =
        let k = ap (days_in_month (is_leap y)) e in
        record {
          from = a;
          to = b;
          month_from = omega arith;
          month_to = omega arith;
          day_from = omega arith;
          day_to = omega (arith, days (is_leap y));
        }
    go (suc (suc (suc (suc (suc m))))) e = absurd (omega arith)

pub easter_valid : (y : ℕ) (d : Date) → 1996 ≤ y → y ≤ 2899 → d ≡ easter_sunday y → is_date d ≡ true
unfolding easter_sunday
easter_valid y d p q e =
    let a = y % 19 in
    let b = y / 100 in
    let c = y % 100 in
    let h = (19 * a + b - b / 4 - (b - (b + 8) / 25 + 1) / 3 + 15) % 30 in
    let l = (32 + 2 * (b % 4) + 2 * (c / 4) - h - c % 4) % 7 in
    let k = n_bounds a h l (below_19 y) (below_30 _) (below_7 _) in
    rw e (is_valid _ (dated y (n a h l) p q k.0 k.1))

abbrev pub number : ℕ → ℕ
number y =
    let a = y % 19 in
    let b = y / 100 in
    let c = y % 100 in
    let h = (19 * a + b - b / 4 - (b - (b + 8) / 25 + 1) / 3 + 15) % 30 in
    let l = (32 + 2 * (b % 4) + 2 * (c / 4) - h - c % 4) % 7 in
    n a h l

number_bounds : (y : ℕ) → (114 ≤ number y) × (number y ≤ 148)
number_bounds y = n_bounds (y % 19) _ _ (below_19 y) (below_30 _) (below_7 _)

pub number_from : (y : ℕ) → 93 ≤ number y
number_from y = more (number y) (number_bounds y).0
  where
    more : (x : ℕ) → 114 ≤ x → 93 ≤ x
    more x h = omega arith

sum_fits : (s x : ℕ) → s ≤ last → x ≤ 148 → Fits w32 (s + (x - 93))
sum_fits s x g h = record { fits = omega arith }

abbrev march : ℕ → Date
march y = record { year = y; month = 3; day = 1 }

-- March has 31 days, so the date with n of March or of April lies n - 93 days after the first of March
after_march :
    (y x : ℕ) → 114 ≤ x → x ≤ 148 →
    days_before (march y) + (x - 93) ≡ days_before (record { year = y; month = x / 31; day = x % 31 + 1 })
after_march y x p q = go (x / 31) refl
  where
    go :
        (m : ℕ) → x / 31 ≡ m →
        days_before (march y) + (x - 93) ≡ days_before (record { year = y; month = m; day = x % 31 + 1 })
    go zero e = absurd (omega arith)
    go (suc zero) e = absurd (omega arith)
    go (suc (suc zero)) e = absurd (omega arith)
    go (suc (suc (suc zero))) e = omega arith
    go (suc (suc (suc (suc zero)))) e =
        omega (arith, start_suc (days_in_month (is_leap y)) 3, days (is_leap y))
    go (suc (suc (suc (suc (suc m))))) e = absurd (omega arith)

easter_after : (y : ℕ) → days_before (march y) + (number y - 93) ≡ easter_index y
unfolding easter_index easter_sunday
easter_after y = let b = number_bounds y in after_march y (number y) b.0 b.1

pub easter_from : EasterFromMarch22
easter_from y = omega (arith, easter_after y, number_bounds y)

pub easter_to : EasterToApril25
easter_to y =
    omega (arith, easter_after y, number_bounds y, start_suc (days_in_month (is_leap y)) 3, days (is_leap y))

module _ (y : ℕ) (p : 1996 ≤ y) (q : y ≤ 2899) where
  pub march_valid : is_date (march y) ≡ true
  march_valid =
      is_valid (march y)
      (record {
        from = p;
        to = q;
        month_from = omega arith;
        month_to = omega arith;
        day_from = omega arith;
        day_to = omega (arith, days (is_leap y));
      })

  module _ (s : ℕ) (e : s ≡ days_before (march y)) (g : s ≤ last) where
    pub number_fits : Fits w32 (s + (number y - 93))
    number_fits = sum_fits s (number y) g (number_bounds y).1

    pub easter_number : (s + (number y - 93) ≡ easter_index y) × (s + (number y - 93) ≤ last)
    unfolding easter_index
    easter_number =
        let z = easter_after y in
        let v = valid_is (easter_sunday y) (easter_valid y (easter_sunday y) p q refl) in
        let i = index_below (easter_sunday y) v in
        (rw e z, omega (arith, z))

abbrev pub day_in : Bool → ℕ → ℕ → ℕ
day_in l m d = month_start l m + (d - 1)

abbrev pub easter_in : ℕ → ℕ
easter_in y = let d = easter_sunday y in day_in (is_leap y) d.month d.day

easter_year : (y : ℕ) → (easter_sunday y).year ≡ y
unfolding easter_sunday
easter_year y = refl

pub easter_is : (k : ℕ) → easter_index (1996 + k) ≡ year_start k + easter_in (1996 + k)
unfolding easter_index
easter_is k = let z : 1996 + k - 1996 ≡ k = omega arith in rw (easter_year (1996 + k), z) (omega arith)

abbrev pub first_of : ℕ → ℕ
first_of k = (365 * k + ((k + 1995) / 4 + (k + 1995) / 400 - (k + 1995) / 100) - 483) % 7

pub weekday_in : (k r : ℕ) → weekday (year_start k + r) ≡ (first_of k + r) % 7
weekday_in k r = same (year_start k) (first_of k) r (ap (λ (s : ℕ). s % 7) (start_is k))
  where
    same : (s f r : ℕ) → f ≡ s % 7 → (s + r) % 7 ≡ (f + r) % 7
    same s f r e = omega arith

placed : ℕ → Bool
placed k =
    let e = easter_in (1996 + k) in
    eqb ((first_of k + e) % 7) 6 && (leb 80 e && leb e 116)

all_placed : run placed 904 0 ≡ true
unfolding run placed easter_sunday start days_in_month is_leap
all_placed = refl

placed_is : (k : ℕ) → k < 904 → placed k ≡ true
placed_is k h = run_at placed 904 0 all_placed k (omega arith) (omega arith)

-- what holds of the years counted from 1996 holds of the calendar's years
each_year : (P : ℕ → Type 0) → ((k : ℕ) → k < 904 → P (1996 + k)) → (y : ℕ) → 1996 ≤ y → y ≤ 2899 → P y
each_year P f y a b = let q : 1996 + (y - 1996) ≡ y = omega arith in subst P q (f (y - 1996) (omega arith))

pub easter_on_sunday : (y : ℕ) → 1996 ≤ y → y ≤ 2899 → weekday (easter_index y) ≡ 6
unfolding placed
easter_on_sunday =
    each_year (λ y. weekday (easter_index y) ≡ 6)
    (λ k h. rw (easter_is k, weekday_in k (easter_in (1996 + k))) (eqb-true _ _ (and_left _ _ (placed_is k h))))

abbrev Between : ℕ → Type 0
Between y = (year_start (y - 1996) + 80 ≤ easter_index y) × (easter_index y ≤ year_start (y - 1996) + 116)

pub easter_between : (y : ℕ) → 1996 ≤ y → y ≤ 2899 → Between y
unfolding placed
easter_between = each_year Between between
  where
    between : (k : ℕ) → k < 904 → Between (1996 + k)
    between k h =
        let e = easter_in (1996 + k) in
        let t = and_right (eqb ((first_of k + e) % 7) 6) _ (placed_is k h) in
        let p = leb-true 80 e (and_left (leb 80 e) (leb e 116) t) in
        let q = leb-true e 116 (and_right (leb 80 e) (leb e 116) t) in
        let z : 1996 + k - 1996 ≡ k = omega arith in
        rw (z, easter_is k) (omega arith, omega arith)

pub ruleset sunday_rules = (room, enough, below_30, march_valid, number_from, number_fits, easter_number)
