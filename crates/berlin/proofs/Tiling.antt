-- When the Berlin clock comes to a time: no instant before then shows it or a later one, every instant from then on
-- does. So days tile the time line.
--   ComesTo l m    the Berlin clock comes to l at second m
--   comes_to       that is so of the instant that shows l, if it is a time that is never absent or repeated
--   midnight_begins   so a day begins at `berlin_midnight`
--   before_time    an instant is before such a full second exactly if the clock shows an earlier time then
--   end_last       no instant of a day is in a later second than its end
-- Assumes nothing.
use Prim.Native.Nat.{ℕ, suc, ◌+◌, ◌≤◌, ◌<◌}
use mathlib.Core.Path.{◌≡◌, sym, ◌∙◌}
use native.Mathlib.Omega.{arith}
use native.Mathlib.Decide.{dec_le, dec_lt}
use lib.Dec.{ltb}
use borrow.Author.Tests.{lt-ltb, le-ltb}
use Rattle.zaehlung.specs.Walk.{last}
use Rattle.datum.specs.Calendar.{year_of}
use Rattle.berlin.specs.declared.Moment.{Moment}
use Rattle.berlin.specs.Berlin.{day_start, seconds_of, is_before, offset_at, berlin_clock, berlin_midnight}
use Rattle.berlin.specs.Berlin.{end_of_day_berlin}
use Rattle.berlin.proofs.Order.{full_second}
use Rattle.berlin.proofs.SummerTime.{sundays, own_year, summer_in, winter_late, winter_early}
use Rattle.berlin.proofs.LocalTime.{offset_cases, by_stretch}
use Rattle.berlin.proofs.Proper.{midnight_earliest, end_earliest}

pub record ComesTo (l m : ℕ) : Type 0 where
  pub before : (s : ℕ) → s < m → berlin_clock s < l
  pub after : (s : ℕ) → m ≤ s → l ≤ berlin_clock s

-- m shows the time t of day i
module _ (i t m : ℕ) (h : i ≤ last) (u : t < 86400) (n : 7200 ≤ t → t < 10800 → ⊥)
    (e : berlin_clock m ≡ day_start i + t) where
  abbrev l : ℕ
  l = day_start i + t

  -- by UTC+1: the hour before it has that offset too
  at_winter :
      offset_at m ≡ 3600 → ((s : ℕ) → l ≤ s + 7200 → s + 3600 < l → offset_at s ≡ 3600) → ComesTo l m
  at_winter a f =
      record {
        before = λ s b. elim (dec_lt (s + 7200) l) [
          | yes y ↦ offset_cases s (λ x. omega arith) (λ x. omega arith)
          | no y ↦ let x = f s (omega arith) (omega arith) in omega arith
        ];
        after = λ s b. offset_cases s (λ x. omega arith) (λ x. omega arith);
      }

  -- by UTC+2: the hour after it has that offset too
  at_summer :
      offset_at m ≡ 7200 → ((s : ℕ) → l ≤ s + 7200 → s + 3600 < l → offset_at s ≡ 7200) → ComesTo l m
  at_summer a f =
      record {
        before = λ s b. offset_cases s (λ x. omega arith) (λ x. omega arith);
        after = λ s b. elim (dec_lt (s + 3600) l) [
          | yes y ↦ let x = f s (omega arith) y in omega arith
          | no y ↦ offset_cases s (λ x. omega arith) (λ x. omega arith)
        ];
      }

  pub comes_to : ComesTo l m
  comes_to =
      let k : ℕ = (year_of i).0 in
      let y = own_year i h in
      let z = sundays k in
      by_stretch i t k h y u
      (λ a.
      at_winter
      (offset_cases m (λ x. x) (λ x. let z = winter_early k m y.few (omega arith) (omega arith) in
      absurd (omega arith)))
      (λ s b c. winter_early k s y.few (omega arith) (omega arith)))
      (λ a b. absurd (n (omega arith) (omega arith)))
      (λ a b.
      at_summer
      (offset_cases m (λ x. let z = summer_in k m y.few (omega arith) (omega arith) in absurd (omega arith))
      (λ x. x))
      (λ s c d. summer_in k s y.few (omega arith) (omega arith)))
      (λ a b. absurd (n (omega arith) (omega arith)))
      (λ a.
      at_winter
      (offset_cases m (λ x. x) (λ x. let z = winter_late k m y.few (omega arith) (omega arith) (omega arith) in
      absurd (omega arith)))
      (λ s b c. winter_late k s y.few (omega arith) (omega arith) (omega arith)))

pub midnight_begins : (i : ℕ) → i ≤ last → ComesTo (day_start i) (seconds_of (berlin_midnight i))
midnight_begins i h =
    let e = midnight_earliest i h in
    let c = comes_to i 0 (seconds_of (berlin_midnight i)) h (omega arith) (λ a b. omega arith)
    (omega (arith, e.shown)) in
    record { before = λ s b. omega (arith, c.before s b); after = λ s b. omega (arith, c.after s b) }

-- o is a full second at which the clock comes to l
module _ (m o : Moment) (l : ℕ) (n : o.nanos ≡ 0) (c : ComesTo l (seconds_of o)) where
  pub before_time : is_before m o ≡ ltb (berlin_clock (seconds_of m)) l
  before_time =
      full_second m o n
      ∙ elim (dec_lt (seconds_of m) (seconds_of o)) [
        | yes y ↦
            lt-ltb (seconds_of m) (seconds_of o) y
            ∙ sym (lt-ltb (berlin_clock (seconds_of m)) l (c.before (seconds_of m) y))
        | no y ↦
            le-ltb (seconds_of m) (seconds_of o) (omega arith)
            ∙ sym (le-ltb (berlin_clock (seconds_of m)) l (c.after (seconds_of m) (omega arith)))
      ]

-- s is after the instant m that shows 23:59:59, and shows no later time
module _ (i m s : ℕ) (h : i ≤ last) (e : berlin_clock m ≡ day_start i + 86399) (g : m < s)
    (f : berlin_clock s < day_start i + 86400) where
  no_later : ⊥
  no_later =
      let k : ℕ = (year_of i).0 in
      let y = own_year i h in
      let n = sundays k in
      by_stretch i 86399 k h y (omega arith)
      (λ a. offset_cases m (λ x. offset_cases s (λ z. omega arith) (λ z. omega arith))
      (λ x. let z = winter_early k m y.few (omega arith) (omega arith) in omega arith))
      (λ a b. omega arith)
      (λ a b. offset_cases s (λ x. let z = summer_in k s y.few (offset_cases m (λ v. omega arith) (λ v. omega arith))
      (omega arith) in omega arith) (λ x. offset_cases m
      (λ v. let z = summer_in k m y.few (omega arith) (omega arith) in omega arith) (λ v. omega arith)))
      (λ a b. omega arith)
      (λ a. offset_cases m (λ x. offset_cases s (λ z. omega arith) (λ z. omega arith))
      (λ x. let z = winter_late k m y.few (omega arith) (omega arith) (omega arith) in omega arith))

pub end_last : (i s : ℕ) → i ≤ last → berlin_clock s < day_start (suc i) → s ≤ seconds_of (end_of_day_berlin i)
end_last i s h f =
    let e = end_earliest i h in
    elim (dec_le s (seconds_of (end_of_day_berlin i))) [
      | yes y ↦ y
      | no y ↦ absurd (no_later i (seconds_of (end_of_day_berlin i)) s h (omega (arith, e.shown)) (omega arith)
          (omega arith))
    ]
