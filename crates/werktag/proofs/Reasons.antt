-- What the reason of a day says. The statements of specs/Closed.antt that are lemmas here are not named again.
--   reason_is      it is the first that holds of the tests of the day's index and date
--   weekend_shut   no Saturday and no Sunday is a Werktag
--   weekday_open   any other day is one exactly if it is not in the list
--   reason_given, reason_gives  it is 1 + k exactly if the k-th of these tests holds and none before it does
-- Source: document 02, F-2.
-- Assumes nothing.
use Prim.Native.Nat.{ℕ, zero, suc, ◌+◌, ◌≤◌, ◌<◌}
use mathlib.Core.Bool.{Bool, true, false, not, ◌&&◌, ◌||◌}
use mathlib.Core.List.{List, ◌∷◌}
use mathlib.Core.Path.{◌≡◌, refl, sym, ap, ◌∙◌}
use native.Mathlib.Omega.{arith}
use native.Mathlib.Decide.{dec_lt}
use lib.Dec.{eqb, leb}
use lib.IntN.{pos}
use lib.ListN.{get_or, get_or-append}
use lib.Seq.{get_or-append-add}
use borrow.Author.Tests.{eq-eqb, eqb-true, eqb-false, ne_eqb, le-leb, lt-leb}
use Rattle.zaehlung.proofs.BlockLaws.{at_sum}
use Rattle.datum.specs.declared.Date.{Date}
use Rattle.datum.specs.Calendar.{year_len, year_start, year_of, date_in, date_of, weekday}
use Rattle.datum.proofs.Years.{start_none}
use Rattle.datum.proofs.Dates.{index_date}
use Rattle.werktag.specs.declared.HolidayCalendar.{HolidayCalendar}
use Rattle.werktag.specs.declared.HolidayCalendar.TheVariants.{BdewMaKo}
use Rattle.werktag.specs.Easter.{easter_index}
use Rattle.zaehlung.specs.Lists.{any}
use Rattle.werktag.specs.Werktag.{fixed_days, is_day, is_fixed, is_buss_und_bettag, easter_offsets, is_feast}
use Rattle.werktag.specs.Werktag.{is_easter_feast, is_listed, is_werktag_in, is_werktag}
use Rattle.werktag.specs.Reason.{place_from, fixed_tests, feast_tests, holiday_tests, day_tests, reason_in, reason}
use Rattle.werktag.specs.FeastDates.{offset}
use Rattle.werktag.specs.Closed.{rule, ClosedBy, ZeroIsWerktag, OneIsSaturday, TwoIsSunday, HolidayIsFirstRule}
use Rattle.werktag.specs.Closed.{TwentyIsNeverGiven, ReasonIsAtMost22}
use Rattle.zaehlung.proofs.Search.{any_append}
use Rattle.werktag.proofs.Place.{place_zero, place_most, NoneBefore, place_given, place_gives, map_at}
use Rattle.werktag.proofs.Easter.{easter_on_sunday}

-- a day's year and the day in it make its index
parts : (i : ℕ) → year_start (year_of i).0 + (year_of i).1 ≡ i
parts i = omega (arith, at_sum year_len 903 0 i, start_none)

pub reason_is : (i : ℕ) → reason BdewMaKo i ≡ place_from 1 (day_tests i (date_of i))
unfolding reason date_of
reason_is i = rw (parts i)

listed_is : (i : ℕ) (d : Date) → any (λ b. b) (holiday_tests i d) ≡ is_listed i d
unfolding is_fixed is_easter_feast any
listed_is i d =
    any_append (λ b. b) (fixed_tests d.month d.day)
    (is_buss_und_bettag d.month d.day (weekday i) ∷ feast_tests i d.year)

-- Saturday and Sunday are the weekdays from 5 on
late : (w : ℕ) (b : Bool) → w < 7 → not (eqb w 5 || (eqb w 6 || b)) ≡ (not (leb 5 w) && not b)
late w b h =
    elim (dec_lt w 5) [
      | yes l ↦ rw (lt-leb 5 w l, ne_eqb w 5 (λ q. omega arith), ne_eqb w 6 (λ q. omega arith))
      | no l ↦ elim (dec_lt w 6) [
        | yes g ↦ rw (le-leb 5 w (omega arith), eq-eqb w 5 (omega arith))
        | no g ↦ rw (le-leb 5 w (omega arith), ne_eqb w 5 (λ q. omega arith), eq-eqb w 6 (omega arith))
      ]
    ]

zero_in : (cal : HolidayCalendar) (k r : ℕ) → eqb (reason_in cal k r) 0 ≡ is_werktag_in cal k r
unfolding any
zero_in BdewMaKo k r =
    let i = year_start k + r in
    let d = date_in k r in
    place_zero 1 (day_tests i d) (omega arith)
    ∙ rw (listed_is i d) (late (weekday i) (is_listed i d) (omega arith))

zero_test : (cal : HolidayCalendar) (i : ℕ) → eqb (reason cal i) 0 ≡ is_werktag cal i
unfolding reason is_werktag
zero_test cal i = zero_in cal (year_of i).0 (year_of i).1

pub reason_zero : ZeroIsWerktag
reason_zero cal i = (
  λ e. sym (zero_test cal i) ∙ eq-eqb (reason cal i) 0 e,
  λ t. eqb-true (reason cal i) 0 (zero_test cal i ∙ t),
)

pub weekend_shut : (cal : HolidayCalendar) (i : ℕ) → 5 ≤ weekday i → is_werktag cal i ≡ false
unfolding is_werktag
weekend_shut BdewMaKo i h = rw (parts i, le-leb 5 (weekday i) h)

pub weekday_open : (i : ℕ) → weekday i < 5 → is_werktag BdewMaKo i ≡ not (is_listed i (date_of i))
unfolding is_werktag date_of
weekday_open i h = rw (parts i, lt-leb 5 (weekday i) h)

-- the number 1 + k, by the k-th test of the day
module _ (i : ℕ) where
  abbrev tests : List Bool
  tests = day_tests i (date_of i)

  reason_given : (k : ℕ) → reason BdewMaKo i ≡ 1 + k → (get_or tests k false ≡ true) × NoneBefore tests k
  reason_given k e = place_given 1 k tests (omega arith) (sym (reason_is i) ∙ e)

  reason_gives : (k : ℕ) → get_or tests k false ≡ true → NoneBefore tests k → reason BdewMaKo i ≡ 1 + k
  reason_gives k t f = reason_is i ∙ place_gives 1 k tests t f

pub on_saturday : OneIsSaturday
on_saturday i = (
  λ e. eqb-true (weekday i) 5 (reason_given i 0 e).0,
  λ h. reason_gives i 0 (eq-eqb (weekday i) 5 h) (λ j l. absurd (omega arith)),
)

pub on_sunday : TwoIsSunday
on_sunday i = (
  λ e. eqb-true (weekday i) 6 (reason_given i 1 e).0,
  λ h. reason_gives i 1 (eq-eqb (weekday i) 6 h) (before h),
)
  where
    before : weekday i ≡ 6 → NoneBefore (tests i) 1
    before h zero l = ne_eqb (weekday i) 5 (λ q. omega arith)
    before h (suc j) l = absurd (omega arith)

pub on_holiday : HolidayIsFirstRule
on_holiday i k = (given, gives)
  where
    given : reason BdewMaKo i ≡ 3 + k → ClosedBy i k
    given e =
        let g = reason_given i (suc (suc k)) (e ∙ omega arith) in
        let saturday = eqb-false (weekday i) 5 (g.1 0 (omega arith)) in
        let sunday = eqb-false (weekday i) 6 (g.1 1 (omega arith)) in
        record {
          own = g.0;
          no_weekend = omega (arith, saturday, sunday);
          no_earlier = λ j l. g.1 (suc (suc j)) (omega arith);
        }

    before : ClosedBy i k → NoneBefore (tests i) (suc (suc k))
    before h zero l = ne_eqb (weekday i) 5 (λ q. omega (arith, h.no_weekend))
    before h (suc zero) l = ne_eqb (weekday i) 6 (λ q. omega (arith, h.no_weekend))
    before h (suc (suc j)) l = h.no_earlier j (omega arith)

    gives : ClosedBy i k → reason BdewMaKo i ≡ 3 + k
    gives h = reason_gives i (suc (suc k)) h.own (before h) ∙ omega arith

-- which rule it is
module _ (i : ℕ) where
  abbrev d : Date
  d = date_of i

  abbrev from_bettag : List Bool
  from_bettag = is_buss_und_bettag d.month d.day (weekday i) ∷ feast_tests i d.year

  pub rule_fixed : (k : ℕ) → k < 13 → rule i k ≡ is_day d.month d.day (get_or fixed_days k (0, 0))
  rule_fixed k h =
      get_or-append (fixed_tests d.month d.day) from_bettag false k h
      ∙ map_at (is_day d.month d.day) fixed_days k (0, 0) false h

  pub rule_bettag : rule i 13 ≡ is_buss_und_bettag d.month d.day (weekday i)
  rule_bettag = refl

  pub rule_feast : (k : ℕ) → k < 6 → rule i (14 + k) ≡ is_feast i d.year (offset k)
  rule_feast k h =
      let q : 14 + k ≡ 13 + suc k = omega arith in
      ap (rule i) q
      ∙ get_or-append-add (fixed_tests d.month d.day) from_bettag (suc k) false
      ∙ map_at (is_feast i d.year) easter_offsets k (pos 0) false h

pub never_pfingstsonntag : TwentyIsNeverGiven
never_pfingstsonntag i h e =
    let c = (on_holiday i 17).0 e in
    let v = (index_date i h).0 in
    let q = eqb-true i (easter_index (d i).year + 49) (sym (rule_feast i 3 (omega arith)) ∙ c.own) in
    omega (arith, q, c.no_weekend, easter_on_sunday (d i).year v.from v.to)

pub reason_most : ReasonIsAtMost22
reason_most BdewMaKo i = rw (reason_is i) (omega (arith, place_most 1 (tests i) (omega arith)))
