-- The count that tests its days: what the proofs of `tested` cite, with premises in the form in which they stand there;
-- w is the day test of the list.
--   test_rules      a turn of `test_days`: c is the count so far, t the days tested
--   through_rules   `count_through`: b is the entry of the year, c and t what `test_days` returned
--   count_rules     `count_werktage`
-- Source: the definition of Tested.
-- Assumes nothing.
use Prim.Native.Nat.{ℕ, suc, ◌+◌, ◌-◌, ◌≤◌, ◌<◌}
use mathlib.Core.Bool.{Bool, true, false}
use mathlib.Core.Path.{◌≡◌, refl, sym, ap, ◌∙◌}
use native.Mathlib.Omega.{arith}
use native.Mathlib.Numerals.{add-one}
use borrow.Author.Tests.{lt-ltb, le-ltb}
use mir.Syntax.{w32}
use mir.Val.{Fits, bool_byte}
use Rattle.zaehlung.specs.Walk.{last, bit, among, count}
use Rattle.zaehlung.proofs.Count.{bit_small, count_suc, count_among}
use Rattle.datum.specs.Calendar.{year_start, year_of, day_of_year}
use Rattle.datum.proofs.Years.{year_len_bounds}
use Rattle.werktag.specs.declared.HolidayCalendar.{HolidayCalendar}
use Rattle.werktag.specs.Werktag.{is_werktag}
use Rattle.schritte.specs.Tested.{days_tested}
use Rattle.schritte.proofs.IndexRules.{year_at_lem, at_year, at_most_all}

-- test_days: i is the day at which the walk stands, r what the day test gave, 1 or 0
pub tested_start : (w : ℕ → Bool) (i r : ℕ) → r ≡ bit (w i) → r ≡ among w i 1
unfolding among
tested_start w i r p = omega arith

-- a test's answer as a number
pub bool_bit : (b : Bool) → bool_byte b ≡ bit b
bool_bit true = refl
bool_bit false = refl

pub one_most : (b : Bool) (r : ℕ) → r ≡ bit b → r ≤ 1
one_most b r e = omega (arith, bit_small b)

module _ (w : ℕ → Bool) (f c t i i' r : ℕ) (inv : c ≡ among w f t) (q : i + 1 ≡ f + t) (s : i' ≡ i + 1) where
  pub tested_more : r ≡ bit (w i') → c + r ≡ among w f (t + 1)
  tested_more p =
      let e : f + t ≡ i' = omega arith in
      let n : f + (t + 1) ≡ suc (f + t) = omega arith in
      omega (
        arith,
        ap (count w) n,
        ap (λ (x : ℕ). bit (w x)) e,
        count_suc w (f + t),
        count_among w f t,
        count_among w f (t + 1),
      )

  pub tested_next : i' + 1 ≡ f + (t + 1)
  tested_next = omega arith

pub ruleset test_rules = (tested_start, tested_more, tested_next)

-- count_through: k is the year of the day, f the index of its first day
module _ (day k f : ℕ) (h : day ≤ last) (p : k ≡ (year_of day).0) (q : f ≡ day - (year_of day).1) where
  pub first_by : f ≤ day
  first_by = omega arith

  pub tested_is : (t : ℕ) → t ≡ day - f + 1 → t ≡ day_of_year day
  tested_is t e = omega (arith, year_at_lem day h)

  module _
      (cal : HolidayCalendar) (b c t : ℕ) (e : b ≡ count (is_werktag cal) (year_start k))
      (i : c ≡ among (is_werktag cal) f t) (l : t ≡ day - f + 1) where
    at_suc : b + c ≡ count (is_werktag cal) (suc day)
    at_suc =
        let w = is_werktag cal in
        let s : f ≡ year_start k = omega (arith, at_year day k (year_of day).1 h p refl) in
        let o : f + t ≡ suc day = omega (arith, first_by) in
        omega (arith, ap (count w) s, ap (count w) o, count_among w f t)

    pub through_is : b + c ≡ count (is_werktag cal) (day + 1)
    through_is = at_suc ∙ ap (count (is_werktag cal)) (sym (add-one day))

    pub through_fits : Fits w32 (b + c)
    through_fits = record { fits = omega (arith, at_suc, at_most_all cal (suc day) (omega arith)) }

pub ruleset through_rules = (first_by, tested_is, through_is, through_fits)

-- count_werktage
pub day_most : (day : ℕ) → day ≤ last → day_of_year day ≤ 366
day_most day h = omega (arith, year_at_lem day h, year_len_bounds (year_of day).0)

pub both_fit : (a b s t : ℕ) → a ≤ last → b ≤ last → s ≡ day_of_year a → t ≡ day_of_year b → Fits w32 (s + t)
both_fit a b s t h g p q = record { fits = omega (arith, day_most a h, day_most b g) }

pub tested_both : (a b s t : ℕ) → a < b → s ≡ day_of_year a → t ≡ day_of_year b → s + t ≡ days_tested a b
unfolding days_tested
tested_both a b s t h p q = rw (lt-ltb a b h) (omega arith)

pub tested_not : (a b : ℕ) → b ≤ a → 0 ≡ days_tested a b
unfolding days_tested
tested_not a b h = rw (le-ltb a b h)

pub ruleset count_rules = (both_fit, tested_both, tested_not)
