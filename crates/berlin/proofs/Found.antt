-- What `berlin_at` finds: the earliest instant at which the Berlin clock shows a time, and when there is none.
--   moment_seconds seconds_moment    `moment_of` and `seconds_of` undo each other
--   is_earliest earliest_is     `berlin_at` gives m exactly if m is the earliest instant that shows the time
--   absent_none none_absent     `berlin_at` gives None exactly if no instant shows the time
--   absent_when when_absent     that is so exactly from 02:00 to before 03:00 of the last Sunday of March
--   repeated_when when_repeated two show it exactly from 02:00 to before 03:00 of the last Sunday of October
-- Assumes nothing.
use Prim.Native.Nat.{ℕ, ◌+◌, ◌-◌, ◌≤◌, ◌<◌}
use mathlib.Core.Path.{◌≡◌, refl, sym, ap, ◌∙◌}
use mathlib.Core.Logic.{◌⊎◌, inl, inr, ⊎_elim}
use native.Mathlib.Omega.{arith}
use Rattle.std.specs.Prelude.{Some, None}
use Rattle.zaehlung.specs.Walk.{last}
use Rattle.datum.specs.Calendar.{year_of, date_of}
use Rattle.berlin.specs.declared.Moment.{Moment}
use Rattle.berlin.specs.declared.Clock.{Clock}
use Rattle.berlin.specs.Berlin.{day_start, moment_of, seconds_of, last_sunday, offset_at, berlin_clock, berlin_at}
use Rattle.berlin.specs.Inside.{ProperClock}
use Rattle.berlin.specs.LocalTimes.{Earliest, Repeated}
use Rattle.berlin.proofs.SummerTime.{parts, own_year, year_name}
use Rattle.berlin.proofs.LocalTime.{offset_cases, early, gap, summer, twice, late, by_stretch}
use Rattle.berlin.proofs.LocalTime.{at_two, at_one, at_none}

pub moment_seconds : (s x : ℕ) → seconds_of (moment_of s x) ≡ s
moment_seconds s x = omega arith

pub seconds_moment : (m : Moment) → m.second < 86400 → moment_of (seconds_of m) m.nanos ≡ m
seconds_moment m h =
    let q = parts (seconds_of m) m.utcday m.second refl h in
    rw (q.0, q.1)

module _ (i : ℕ) (c : Clock) where
  abbrev l : ℕ
  l = day_start i + c.second

  -- s shows the time, and no earlier instant does
  earliest_of :
      (s : ℕ) (m : Moment) → berlin_clock s ≡ l → ((t : ℕ) → berlin_clock t ≡ l → s ≤ t) → m ≡ moment_of s c.nanos →
      Earliest i c m
  earliest_of s m h g e =
      let a = moment_seconds s c.nanos in
      rw e
      (record {
        shown = ap berlin_clock a ∙ h;
        least = λ t k. omega (arith, g t k);
        second_lt = omega arith;
        nanos = refl;
      })

  -- the three answers, by the offset at the two instants that may show the time
  pub data Answer : Type 0 where
    two : berlin_clock (l - 7200) ≡ l → berlin_at i c ≡ Some (moment_of (l - 7200) c.nanos) → Answer
    one :
        offset_at (l - 7200) ≡ 3600 → berlin_clock (l - 3600) ≡ l →
        berlin_at i c ≡ Some (moment_of (l - 3600) c.nanos) → Answer
    none : offset_at (l - 7200) ≡ 3600 → offset_at (l - 3600) ≡ 7200 → berlin_at i c ≡ None → Answer

  pub answer : Answer
  answer =
      offset_cases (l - 7200)
      (λ a. offset_cases (l - 3600) (λ b. one a (omega arith) (at_one i c a b)) (λ b. none a b (at_none i c a b)))
      (λ a. two (omega arith) (at_two i c a))

  -- the only instants that may show it
  candidate : (s : ℕ) → berlin_clock s ≡ l → (s ≡ l - 7200) ⊎ (s ≡ l - 3600)
  candidate s h = offset_cases s (λ e. inr (omega arith)) (λ e. inl (omega arith))

  two_least : (t : ℕ) → berlin_clock t ≡ l → l - 7200 ≤ t
  two_least t h = ⊎_elim (λ e. omega arith) (λ e. omega arith) (candidate t h)

  one_least : offset_at (l - 7200) ≡ 3600 → (t : ℕ) → berlin_clock t ≡ l → l - 3600 ≤ t
  one_least a t h = ⊎_elim (λ e. let b = ap offset_at e in absurd (omega arith)) (λ e. omega arith) (candidate t h)

  none_shows : offset_at (l - 7200) ≡ 3600 → offset_at (l - 3600) ≡ 7200 → (t : ℕ) → berlin_clock t ≡ l → ⊥
  none_shows a b t h =
      ⊎_elim (λ e. let d = ap offset_at e in omega arith) (λ e. let d = ap offset_at e in omega arith) (candidate t h)

  module _ (h : i ≤ last) (u : ProperClock c) where
    pub is_earliest : (m : Moment) → berlin_at i c ≡ Some m → Earliest i c m
    is_earliest m e = go answer
      where
        go : Answer → Earliest i c m
        go (two a p) = earliest_of (l - 7200) m a two_least (cc)
        go (one a b p) = earliest_of (l - 3600) m b (one_least a) (cc)
        go (none a b p) = let z : ◌≡◌ {A = ℕ} 0 1 = cc in absurd (omega arith)

    pub earliest_is : (m : Moment) → Earliest i c m → berlin_at i c ≡ Some m
    earliest_is m e = go answer
      where
        at : (s : ℕ) → berlin_clock s ≡ l → ((t : ℕ) → berlin_clock t ≡ l → s ≤ t) → moment_of s c.nanos ≡ m
        at s a g =
            let z : s ≡ seconds_of m = omega (arith, g (seconds_of m) e.shown, e.least s a) in
            rw (z, sym e.nanos) (seconds_moment m e.second_lt)

        go : Answer → berlin_at i c ≡ Some m
        go (two a p) = p ∙ ap Some (at (l - 7200) a two_least)
        go (one a b p) = p ∙ ap Some (at (l - 3600) b (one_least a))
        go (none a b p) = absurd (none_shows a b (seconds_of m) e.shown)

    pub absent_none : berlin_at i c ≡ None → (s : ℕ) → berlin_clock s ≡ l → ⊥
    absent_none e s k = go answer
      where
        go : Answer → ⊥
        go (two a p) = let z : ◌≡◌ {A = ℕ} 0 1 = cc in omega arith
        go (one a b p) = let z : ◌≡◌ {A = ℕ} 0 1 = cc in omega arith
        go (none a b p) = none_shows a b s k

    pub none_absent : ((s : ℕ) → berlin_clock s ≡ l → ⊥) → berlin_at i c ≡ None
    none_absent f = go answer
      where
        go : Answer → berlin_at i c ≡ None
        go (two a p) = absurd (f (l - 7200) a)
        go (one a b p) = absurd (f (l - 3600) b)
        go (none a b p) = p

-- the last Sunday of a month in a day's own year
pub own : (i m : ℕ) → last_sunday (date_of i).year m ≡ last_sunday (1996 + (year_of i).0) m
own i m = ap (λ (y : ℕ). last_sunday y m) (year_name i)

-- i and c by the stretch of the year in which the time lies
module _ (i : ℕ) (c : Clock) (h : i ≤ last) (u : ProperClock c) where
  abbrev t : ℕ
  t = c.second

  abbrev k : ℕ
  k = (year_of i).0

  never : {P : Type 0} (m : Moment) → berlin_at i c ≡ Some m → berlin_at i c ≡ None → P
  never m p e = let z : ◌≡◌ {A = ℕ} 0 1 = cc in absurd (omega arith)

  pub absent_when : berlin_at i c ≡ None → (i ≡ last_sunday (date_of i).year 3) × (7200 ≤ t) × (t < 10800)
  absent_when e =
      let n = own_year i h in
      let v = u.second_lt in
      let o = own i 3 in
      by_stretch i t k h n v
      (λ a. let q = early i t k h n v a in never _ (at_one i c q.0 q.1) e)
      (λ a b. (omega arith, omega arith, omega arith))
      (λ a b. never _ (at_two i c (summer i t k h n v a b).0) e)
      (λ a b. never _ (at_two i c (twice i t k h n v a b).0) e)
      (λ a. let q = late i t k h n v a in never _ (at_one i c q.0 q.1) e)

  pub when_absent : i ≡ last_sunday (date_of i).year 3 → 7200 ≤ t → t < 10800 → berlin_at i c ≡ None
  when_absent e a b =
      let o = own i 3 in
      let q = gap i t k h (own_year i h) u.second_lt (omega arith) (omega arith) in
      at_none i c q.0 q.1

module _ (i : ℕ) (c : Clock) (h : i ≤ last) (u : ProperClock c) where
  abbrev w : ℕ
  w = day_start i + c.second

  -- two instants that show it are an hour apart
  both : Repeated i c → (offset_at (w - 7200) ≡ 7200) × (offset_at (w - 3600) ≡ 3600)
  both r =
      ⊎_elim
      (λ a.
      ⊎_elim
      (λ b. absurd (omega (arith, r.apart)))
      (λ b. let x = ap offset_at a in let y = ap offset_at b in
      (omega (arith, r.earlier_shown), omega (arith, r.later_shown)))
      (candidate i c r.later r.later_shown))
      (λ a.
      ⊎_elim
      (λ b. absurd (omega (arith, r.apart)))
      (λ b. absurd (omega (arith, r.apart)))
      (candidate i c r.later r.later_shown))
      (candidate i c r.earlier r.earlier_shown)

  pub repeated_when : Repeated i c → (i ≡ last_sunday (date_of i).year 10) × (7200 ≤ c.second) × (c.second < 10800)
  repeated_when r =
      let k : ℕ = (year_of i).0 in
      let n = own_year i h in
      let v = u.second_lt in
      let o = own i 10 in
      let q = both r in
      by_stretch i c.second k h n v
      (λ a. let f = early i c.second k h n v a in absurd (omega arith))
      (λ a b. let f = gap i c.second k h n v a b in absurd (omega arith))
      (λ a b. let f = summer i c.second k h n v a b in absurd (omega arith))
      (λ a b. (omega arith, omega arith, omega arith))
      (λ a. let f = late i c.second k h n v a in absurd (omega arith))

  pub when_repeated : i ≡ last_sunday (date_of i).year 10 → 7200 ≤ c.second → c.second < 10800 → Repeated i c
  when_repeated e a b =
      let o = own i 10 in
      let v = twice i c.second (year_of i).0 h (own_year i h) u.second_lt (omega arith) (omega arith) in
      record {
        earlier = w - 7200;
        later = w - 3600;
        apart = omega arith;
        earlier_shown = omega arith;
        later_shown = omega arith;
      }
