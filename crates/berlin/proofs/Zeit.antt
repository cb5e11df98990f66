-- The Berlin clock. i is a day of the calendar by its index, c a time of day, s the seconds of an instant. What the
-- statements say stands in specs/.
--   limits           an instant lies inside the limits exactly if its Berlin day is one of the calendar
--   tiling           days tile the time line
--   before_midnight  an instant is before a midnight exactly if the clock shows an earlier day
--   before_clock     and before a full second that is never absent or repeated, exactly if it shows an earlier time
--   switch_days      the clock changes on Sundays
use Prim.Native.Nat.{ℕ, suc, ◌+◌, ◌-◌, ◌≤◌, ◌<◌}
use mathlib.Core.Path.{◌≡◌, ap, ◌∙◌}
use native.Mathlib.Omega.{arith}
use native.Mathlib.Decide.{dec_lt}
use borrow.Author.Tests.{lt-ltb, le-ltb}
use Rattle.zaehlung.specs.Walk.{last}
use Rattle.datum.specs.Calendar.{weekday}
use Rattle.berlin.specs.Berlin.{day_start, seconds_of, first_second, last_second, last_sunday, berlin_clock}
use Rattle.berlin.specs.Berlin.{berlin_midnight}
use Rattle.berlin.specs.LocalTimes.{LimitsAreBerlinDays}
use Rattle.berlin.specs.Tiles.{next_midnight, DaysTile}
use Rattle.berlin.specs.Comparisons.{BeforeMidnightShowsEarlier, BeforeFullSecondShowsEarlier}
use Rattle.berlin.proofs.SummerTime.{sundays}
use Rattle.berlin.proofs.LocalTime.{clock_from, clock_to, clock_first, clock_final}
use Rattle.berlin.proofs.Found.{is_earliest}
use Rattle.berlin.proofs.Proper.{midnight_earliest}
use Rattle.berlin.proofs.Tiling.{comes_to, before_time, midnight_begins}

pub limits : LimitsAreBerlinDays
limits s = (
  λ h. (omega (arith, clock_from s h.0), omega (arith, clock_to s h.0 h.1)),
  λ h. (clock_first s (omega (arith, h.0)), clock_final s (omega (arith, h.1))),
)

module _ (i s : ℕ) (h : i ≤ last) (from : first_second ≤ s) (to : s ≤ last_second) where
  -- the next day begins after s exactly if s does not show it
  next_after : berlin_clock s < day_start (suc i) → s < next_midnight i
  next_after k =
      elim (dec_lt i last) [
        | yes l ↦ rw (lt-ltb i last l) (elim (dec_lt s (seconds_of (berlin_midnight (suc i))))
            [ yes y ↦ y | no y ↦ absurd (omega (arith, (midnight_begins (suc i) l).after s (omega arith))) ])
        | no l ↦ rw (le-ltb i last (omega arith)) (omega arith)
      ]

  next_before : s < next_midnight i → berlin_clock s < day_start (suc i)
  next_before k =
      elim (dec_lt i last) [
        | yes l ↦ (midnight_begins (suc i) l).before s (rw (lt-ltb i last l) at k)
        | no l ↦ omega (arith, clock_to s from to)
      ]

  this_by : day_start i ≤ berlin_clock s → seconds_of (berlin_midnight i) ≤ s
  this_by k =
      elim (dec_lt s (seconds_of (berlin_midnight i)))
      [ yes y ↦ absurd (omega (arith, (midnight_begins i h).before s y)) | no y ↦ omega arith ]

pub tiling : DaysTile
tiling i s h from to = (
  λ e. (this_by i s h from to (omega (arith, clock_from s from)), next_after i s h from to (omega arith)),
  λ q.
      let a = (midnight_begins i h).after s q.0 in
      let b = next_before i s h from to q.1 in
      omega arith,
)

pub before_midnight : BeforeMidnightShowsEarlier
before_midnight i m h =
    before_time m (berlin_midnight i) (day_start i) (midnight_earliest i h).nanos (midnight_begins i h)

pub before_clock : BeforeFullSecondShowsEarlier
before_clock i c m o h u z n e =
    let a = is_earliest i c h u o e in
    before_time m o (day_start i + c.second) (a.nanos ∙ z)
    (comes_to i c.second (seconds_of o) h u.second_lt n a.shown)

pub switch_days : (y : ℕ) → 1996 ≤ y → (weekday (last_sunday y 3) ≡ 6) × (weekday (last_sunday y 10) ≡ 6)
switch_days y h =
    let n = sundays (y - 1996) in
    let e : 1996 + (y - 1996) ≡ y = omega arith in
    let a = ap (λ (x : ℕ). last_sunday x 3) e in
    let b = ap (λ (x : ℕ). last_sunday x 10) e in
    (omega arith, omega arith)
