-- What this crate's functions cite: a set of lemmas for each, with premises in the form in which they stand there.
-- Assumes nothing.
use Prim.Native.Nat.{ℕ, ◌+◌, ◌-◌, ◌*◌, ◌/◌, ◌%◌, ◌≤◌, ◌<◌}
use mathlib.Core.Bool.{Bool, true, ◌&&◌, cond}
use mathlib.Core.Path.{◌≡◌, refl, ap}
use mathlib.Core.Logic.{◌⊎◌, inl, inr}
use native.Mathlib.Omega.{arith}
use lib.Dec.{leb}
use lib.IntN.{ℤ, pos, negsuc}
use Rattle.std.specs.Prelude.{Some, None}
use Rattle.zaehlung.specs.Walk.{last}
use Rattle.datum.specs.Floor.{floor_div, floor_mod}
use Rattle.datum.specs.Calendar.{is_leap, days_in_month, days_before, weekday, is_date}
use Rattle.datum.proofs.Dates.{is_valid}
use Rattle.berlin.specs.declared.Moment.{Moment}
use Rattle.berlin.specs.declared.Clock.{Clock}
use Rattle.berlin.specs.Berlin.{day_start, moment_of, seconds_of, first_second, last_second, in_limits, read_instant}
use Rattle.berlin.specs.Berlin.{last_sunday, offset_at, berlin_at}
use Rattle.berlin.specs.Inside.{guessed_year}
use Rattle.berlin.proofs.SummerTime.{starts, guessed, summer_in, winter_late}
use Rattle.berlin.proofs.LocalTime.{early, gap, late, at_two, at_one, at_none, clock_to}

-- read_instant: seconds before 1970, or from then on a natural number
pub split_cases :
    (z : ℤ) →
    (floor_div z 86400 ≡ floor_div z 86400)
    × (((a : ℕ) × (z ≡ negsuc a) × (floor_div z 86400 ≡ negsuc (a / 86400)))
    ⊎ ((a : ℕ) × (z ≡ pos a) × (floor_div z 86400 ≡ pos (a / 86400)) × (floor_mod z 86400 ≡ pos (a % 86400))))
unfolding floor_div floor_mod
split_cases (pos a) = (refl, inr (a, refl, refl, refl))
split_cases (negsuc a) = (refl, inl (a, refl, refl))

pub read_below : (a x : ℕ) → read_instant (negsuc a) x ≡ None
unfolding read_instant
read_below a x = refl

pub read_natural :
    (a x : ℕ) →
    read_instant (pos a) x ≡ cond (in_limits a && leb x 999999999) (Some (moment_of a x)) None
unfolding read_instant
read_natural a x = refl

pub limits_are : (s : ℕ) → in_limits s ≡ (leb first_second s && leb s last_second)
unfolding in_limits
limits_are s = refl

pub ruleset read_rules = (split_cases, read_below, read_natural, limits_are)

abbrev guess : ℕ → ℕ
guess i = i * 400 / 146097

-- switches_by: n is what `days_before` returned for 31 March, a and b what `sunday_by` returned
guess_few : (i : ℕ) → i ≤ last → guessed_year i ≤ 2899
guess_few i h = let n = guessed i h in omega (arith, n.few)

len_3 : (l : Bool) → days_in_month l 3 ≡ 31
unfolding days_in_month
len_3 l = refl

march_valid : (y : ℕ) → 1996 ≤ y → y ≤ 2899 → is_date (record { year = y; month = 3; day = 31 }) ≡ true
march_valid y h g =
    is_valid (record { year = y; month = 3; day = 31 })
    (record {
      from = h;
      to = g;
      month_from = omega arith;
      month_to = omega arith;
      day_from = omega arith;
      day_to = omega (arith, len_3 (is_leap y));
    })

pub guess_valid : (i : ℕ) → i ≤ last → is_date (record { year = guessed_year i; month = 3; day = 31 }) ≡ true
guess_valid i h = march_valid (1996 + guess i) (omega arith) (guess_few i h)

module _ (y n : ℕ) (e : n ≡ days_before (record { year = y; month = 3; day = 31 })) where
  pub march_is : (a : ℕ) → a ≡ n - (weekday n + 1) % 7 → a ≡ last_sunday y 3
  unfolding last_sunday
  march_is a p = rw e at p

  pub october_is : (b : ℕ) → b ≡ n + 214 - (weekday (n + 214) + 1) % 7 → b ≡ last_sunday y 10
  unfolding last_sunday
  october_is b p =
      let q : n + 214 ≡ days_before (record { year = y; month = 10; day = 31 }) =
      omega (arith, starts (is_leap y)) in
      rw q at p

pub ruleset switch_rules = (guess_valid, march_is, october_is)

-- offset_at, by the two tests of the code
module _ (i t : ℕ) (h : i ≤ last) (v : t < 86400) where
  pub offset_early :
      day_start i + t < day_start (last_sunday (guessed_year i) 3) + 7200 → offset_at (day_start i + t - 3600) ≡ 3600
  offset_early a = (early i t (guess i) h (guessed i h) v a).1

  pub offset_summer :
      day_start (last_sunday (guessed_year i) 3) + 7200 ≤ day_start i + t →
      day_start i + t < day_start (last_sunday (guessed_year i) 10) + 7200 →
      offset_at (day_start i + t - 3600) ≡ 7200
  offset_summer a b = summer_in (guess i) (day_start i + t - 3600) (guessed i h).few (omega arith) (omega arith)

  pub offset_late :
      day_start (last_sunday (guessed_year i) 10) + 7200 ≤ day_start i + t → offset_at (day_start i + t - 3600) ≡ 3600
  offset_late a =
      let n = guessed i h in
      winter_late (guess i) (day_start i + t - 3600) n.few (omega arith) (omega arith) (omega arith)

pub ruleset offset_rules = (offset_early, offset_summer, offset_late)

-- berlin_date: d and t are what the clock shows that never goes over to summer time
module _ (d t : ℕ) (h : t < 86400) where
  pub date_is :
      (m : Moment) → first_second ≤ seconds_of m → d * 86400 + t ≡ seconds_of m + 3600 →
      offset_at (day_start (d - 9496) + t - 3600) ≡ offset_at (seconds_of m)
  date_is m u e = ap offset_at (omega arith)

  pub date_in :
      first_second + 3600 ≤ d * 86400 + t → d * 86400 + t ≤ last_second + 3600 →
      d * 86400 + t + offset_at (day_start (d - 9496) + t - 3600) < day_start 330180 + 3600
  date_in a b =
      let s : ℕ = d * 86400 + t - 3600 in
      let z : day_start (d - 9496) + t - 3600 ≡ s = omega arith in
      rw z (omega (arith, clock_to s (omega arith) (omega arith)))

pub ruleset date_rules = (date_is, date_in)

-- berlin_at, by the three tests of the code
module _ (i : ℕ) (c : Clock) (h : i ≤ last) (v : c.second < 86400) where
  pub at_early :
      day_start i + c.second < day_start (last_sunday (guessed_year i) 3) + 7200 →
      berlin_at i c ≡ Some (moment_of (day_start i + c.second - 3600) c.nanos)
  at_early a = let q = early i c.second (guess i) h (guessed i h) v a in at_one i c q.0 q.1

  pub at_gap :
      day_start (last_sunday (guessed_year i) 3) + 7200 ≤ day_start i + c.second →
      day_start i + c.second < day_start (last_sunday (guessed_year i) 3) + 10800 → berlin_at i c ≡ None
  at_gap a b = let q = gap i c.second (guess i) h (guessed i h) v a b in at_none i c q.0 q.1

  -- up to 03:00 the earlier instant is the one by UTC+2
  pub at_summer :
      day_start (last_sunday (guessed_year i) 3) + 10800 ≤ day_start i + c.second →
      day_start i + c.second < day_start (last_sunday (guessed_year i) 10) + 10800 →
      berlin_at i c ≡ Some (moment_of (day_start i + c.second - 7200) c.nanos)
  at_summer a b =
      at_two i c
      (summer_in (guess i) (day_start i + c.second - 7200) (guessed i h).few (omega arith) (omega arith))

  pub at_late :
      day_start (last_sunday (guessed_year i) 10) + 10800 ≤ day_start i + c.second →
      berlin_at i c ≡ Some (moment_of (day_start i + c.second - 3600) c.nanos)
  at_late a = let q = late i c.second (guess i) h (guessed i h) v a in at_one i c q.0 q.1

pub ruleset at_rules = (at_early, at_gap, at_summer, at_late)
