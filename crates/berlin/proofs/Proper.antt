-- Instants inside their limits, and times that are never absent: what the crates above cite.
--   limits_hold      seconds that pass the test are inside the limits
--   not_absent never_absent   a time that is not from 02:00 to before 03:00 is never absent; one from 03:00 on
--   resolved_is      a time that is not absent: what `resolved_or` gives is the earliest instant that shows it
--   begin_rules      midnight, 23:59:59 and 06:00 are found
--   day_le           the Berlin day of an instant inside the limits is one of the calendar
--   begins_it        a day that `tag_des_beginns` finds is the Berlin day, and the instant is its beginning
-- Assumes nothing.
use Prim.Native.Nat.{ℕ, ◌≤◌, ◌<◌}
use mathlib.Core.Bool.{true}
use mathlib.Core.Path.{◌≡◌, refl, sym, ◌∙◌}
use native.Mathlib.Omega.{arith}
use Rattle.std.specs.Prelude.{Option, Some, None}
use Rattle.std.proofs.lemmas.Grind.{common_steps}
use Rattle.zaehlung.specs.Walk.{last}
use Rattle.berlin.specs.declared.Moment.{Moment}
use Rattle.berlin.specs.declared.Clock.{Clock}
use Rattle.berlin.specs.declared.Sparte.{Sparte}
use Rattle.berlin.specs.declared.Sparte.TheVariants.{Gas}
use Rattle.berlin.specs.Berlin.{o_clock, seconds_of, first_second, last_second, in_limits}
use Rattle.berlin.specs.Berlin.{berlin_date, berlin_at, resolved_or, berlin_midnight, end_of_day_berlin}
use Rattle.berlin.specs.Berlin.{tagesbeginn_utc, same_instant, tag_des_beginns}
use Rattle.berlin.specs.Inside.{Proper, ProperClock}
use Rattle.berlin.specs.LocalTimes.{Earliest}
use Rattle.berlin.proofs.LocalTime.{clock_to}
use Rattle.berlin.proofs.Found.{is_earliest, earliest_is, absent_when}

pub limits_hold : (s : ℕ) → in_limits s ≡ true → (first_second ≤ s) × (s ≤ last_second)
unfolding in_limits
limits_hold s h = grind (arith, common_steps)

-- for a clock that stands in the code
pub proper_clock : (c : Clock) → c.second < 86400 → c.nanos ≤ 999999999 → ProperClock c
proper_clock c h g = record { second_lt = h; nanos_le = g }

-- a time that is not from 02:00 to before 03:00 is never absent
pub not_absent :
    (i : ℕ) (c : Clock) (r : Option Moment) → i ≤ last → ProperClock c → (7200 ≤ c.second → c.second < 10800 → ⊥) →
    r ≡ berlin_at i c → r ≡ None → ⊥
not_absent i c r h u n e p = let q = absent_when i c h u (sym e ∙ p) in n q.1 q.2

pub resolved_is :
    (i : ℕ) (c : Clock) → i ≤ last → ProperClock c → (7200 ≤ c.second → c.second < 10800 → ⊥) →
    Earliest i c (resolved_or (berlin_at i c))
resolved_is i c h u n = go (berlin_at i c) refl
  where
    go : (r : Option Moment) → berlin_at i c ≡ r → Earliest i c (resolved_or r)
    go (Some m) e = is_earliest i c h u m e
    go None e = absurd (not_absent i c None h u n (sym e) refl)

-- from 03:00 on: 12:00, say
pub never_absent :
    (i : ℕ) (c : Clock) (r : Option Moment) → i ≤ last → ProperClock c → 10800 ≤ c.second → r ≡ berlin_at i c →
    r ≡ None → ⊥
never_absent i c r h u n e p = not_absent i c r h u (λ a b. omega arith) e p

abbrev midnight : Clock
midnight = o_clock 0

abbrev second_before_midnight : Clock
second_before_midnight = record { second = 86399; nanos = 999999999 }

abbrev six : Clock
six = o_clock 6

module _ (i : ℕ) (h : i ≤ last) where
  pub midnight_earliest : Earliest i midnight (berlin_midnight i)
  unfolding berlin_midnight
  midnight_earliest = resolved_is i midnight h (proper_clock _ (omega arith) (omega arith)) (λ a b. omega arith)

  pub end_earliest : Earliest i second_before_midnight (end_of_day_berlin i)
  unfolding end_of_day_berlin
  end_earliest = resolved_is i second_before_midnight h (proper_clock _ (omega arith) (omega arith))
      (λ a b. omega arith)

  pub gas_earliest : Earliest i six (tagesbeginn_utc i Gas)
  unfolding tagesbeginn_utc
  gas_earliest = resolved_is i six h (proper_clock _ (omega arith) (omega arith)) (λ a b. omega arith)

  -- as `unwrap` asks and promises
  pub midnight_some : berlin_at i midnight ≡ Some (berlin_midnight i)
  midnight_some = earliest_is i midnight h (proper_clock _ (omega arith) (omega arith)) _ midnight_earliest

  pub end_some : berlin_at i second_before_midnight ≡ Some (end_of_day_berlin i)
  end_some = earliest_is i second_before_midnight h (proper_clock _ (omega arith) (omega arith)) _ end_earliest

  pub gas_some : berlin_at i six ≡ Some (tagesbeginn_utc i Gas)
  gas_some = earliest_is i six h (proper_clock _ (omega arith) (omega arith)) _ gas_earliest

pub ruleset begin_rules = (midnight_some, end_some, gas_some)

-- the Berlin day of an instant inside the limits is one of the calendar
pub day_le : (m : Moment) → Proper m → berlin_date m ≤ last
day_le m p = let a = clock_to (seconds_of m) p.from p.to in omega arith

same_moment : (m n : Moment) → same_instant m n ≡ true → m ≡ n
same_moment m n h = grind (arith, common_steps)

-- tag_des_beginns: a day that was found is the Berlin day, and the instant is its beginning
pub begins_it :
    (m : Moment) (sp : Sparte) (i : ℕ) → tag_des_beginns m sp ≡ Some i →
    (berlin_date m ≡ i) × (m ≡ tagesbeginn_utc i sp)
unfolding tag_des_beginns
begins_it m sp i e = grind (arith, common_steps, same_moment)
