-- The offset at the two instants that may show a local time, and what `berlin_at` gives: five stretches of a year.
--   early        before 02:00 of the last Sunday of March: only UTC+1 shows a time
--   gap          from 02:00 to before 03:00 of that day: nothing shows it
--   summer       to before 02:00 of the last Sunday of October: only UTC+2 shows it
--   twice        from 02:00 to before 03:00 of that day: both show it
--   late         from then on: only UTC+1 shows it; by_stretch: a time lies in one of the five
--   at_two at_one at_none   what `berlin_at` gives
--   clock_from clock_to     the Berlin day of an instant inside the limits is one of the calendar; clock_first
--                        clock_final the converse
-- Assumes nothing.
use Prim.Native.Nat.{ℕ, suc, ◌+◌, ◌-◌, ◌/◌, ◌%◌, ◌≤◌, ◌<◌}
use mathlib.Core.Bool.{Bool, true, false, ◌&&◌, cond}
use mathlib.Core.Path.{◌≡◌, refl}
use native.Mathlib.Omega.{arith}
use native.Mathlib.Decide.{dec_le, dec_lt}
use lib.Dec.{leb, ltb}
use borrow.Author.Tests.{eq-eqb, ne_eqb}
use Rattle.std.specs.Prelude.{Some, None}
use Rattle.zaehlung.specs.Walk.{last}
use Rattle.zaehlung.proofs.BlockLaws.{start_mono}
use Rattle.datum.specs.Calendar.{year_len, year_of}
use Rattle.datum.proofs.Years.{start_all, start_none}
use Rattle.berlin.specs.declared.Clock.{Clock}
use Rattle.berlin.specs.Berlin.{day_start, moment_of, first_second, last_second, last_sunday, summer_from, summer_to}
use Rattle.berlin.specs.Berlin.{year_at, offset_at, berlin_clock, berlin_at}
use Rattle.berlin.proofs.SummerTime.{sundays, in_year_lem, Near, year_name, year_at_lem, after_summer, summer_in}
use Rattle.berlin.proofs.SummerTime.{winter_late, winter_early}

-- the offset is one or two hours
by_test : {A : Type 0} (b : Bool) (x : ℕ) → x ≡ cond b 7200 3600 → (x ≡ 3600 → A) → (x ≡ 7200 → A) → A
by_test true x e f g = g e
by_test false x e f g = f e

pub offset_cases : {A : Type 0} (s : ℕ) → (offset_at s ≡ 3600 → A) → (offset_at s ≡ 7200 → A) → A
unfolding offset_at
offset_cases s f g = by_test (leb (summer_from (year_at s)) s && ltb s (summer_to (year_at s))) (offset_at s) refl f g

-- k is the year of the day, or one beside it
module _ (i t k : ℕ) (h : i ≤ last) (n : Near i k) (u : t < 86400) where
  abbrev w : ℕ
  w = day_start i + t

  abbrev march : ℕ
  march = day_start (last_sunday (1996 + k) 3)

  abbrev october : ℕ
  october = day_start (last_sunday (1996 + k) 10)

  pub early : w < march + 7200 → (offset_at (w - 7200) ≡ 3600) × (offset_at (w - 3600) ≡ 3600)
  early a = (
    winter_early k (w - 7200) n.few (omega arith) (omega arith),
    winter_early k (w - 3600) n.few (omega arith) (omega arith),
  )

  pub gap : march + 7200 ≤ w → w < march + 10800 → (offset_at (w - 7200) ≡ 3600) × (offset_at (w - 3600) ≡ 7200)
  gap a b =
      let m = sundays k in (
        winter_early k (w - 7200) n.few (omega arith) (omega arith),
        summer_in k (w - 3600) n.few (omega arith) (omega arith),
      )

  pub summer : march + 10800 ≤ w → w < october + 7200 → (offset_at (w - 7200) ≡ 7200) × (offset_at (w - 3600) ≡ 7200)
  summer a b = (
    summer_in k (w - 7200) n.few (omega arith) (omega arith),
    summer_in k (w - 3600) n.few (omega arith) (omega arith),
  )

  pub twice : october + 7200 ≤ w → w < october + 10800 → (offset_at (w - 7200) ≡ 7200) × (offset_at (w - 3600) ≡ 3600)
  twice a b =
      let m = sundays k in (
        summer_in k (w - 7200) n.few (omega arith) (omega arith),
        winter_late k (w - 3600) n.few (omega arith) (omega arith) (omega arith),
      )

  pub late : october + 10800 ≤ w → (offset_at (w - 7200) ≡ 3600) × (offset_at (w - 3600) ≡ 3600)
  late a = (
    winter_late k (w - 7200) n.few (omega arith) (omega arith) (omega arith),
    winter_late k (w - 3600) n.few (omega arith) (omega arith) (omega arith),
  )

  -- one of the five
  pub by_stretch :
      {P : Type 0} → (w < march + 7200 → P) → (march + 7200 ≤ w → w < march + 10800 → P) →
      (march + 10800 ≤ w → w < october + 7200 → P) → (october + 7200 ≤ w → w < october + 10800 → P) →
      (october + 10800 ≤ w → P) → P
  by_stretch a b c d e =
      elim (dec_lt w (march + 7200)) [
        | yes x ↦ a x
        | no x ↦
            elim (dec_lt w (march + 10800)) [
              | yes y ↦ b (omega arith) y
              | no y ↦
                  elim (dec_lt w (october + 7200)) [
                    | yes z ↦ c (omega arith) z
                    | no z ↦ elim (dec_lt w (october + 10800)) [ yes q ↦ d (omega arith) q | no q ↦ e (omega arith) ]
                  ]
            ]
      ]

module _ (i : ℕ) (c : Clock) where
  abbrev l : ℕ
  l = day_start i + c.second

  pub at_two : offset_at (l - 7200) ≡ 7200 → berlin_at i c ≡ Some (moment_of (l - 7200) c.nanos)
  unfolding berlin_at
  at_two a = rw (eq-eqb (berlin_clock (l - 7200)) l (omega arith))

  pub at_one :
      offset_at (l - 7200) ≡ 3600 → offset_at (l - 3600) ≡ 3600 → berlin_at i c ≡ Some (moment_of (l - 3600) c.nanos)
  unfolding berlin_at
  at_one a b =
      rw (ne_eqb (berlin_clock (l - 7200)) l (λ z. omega arith), eq-eqb (berlin_clock (l - 3600)) l (omega arith))

  pub at_none : offset_at (l - 7200) ≡ 3600 → offset_at (l - 3600) ≡ 7200 → berlin_at i c ≡ None
  unfolding berlin_at
  at_none a b =
      rw (ne_eqb (berlin_clock (l - 7200)) l (λ z. omega arith), ne_eqb (berlin_clock (l - 3600)) l (λ z. omega arith))

pub clock_from : (s : ℕ) → first_second ≤ s → day_start 0 ≤ berlin_clock s
clock_from s h = offset_cases s (λ e. omega arith) (λ e. omega arith)

pub clock_to : (s : ℕ) → first_second ≤ s → s ≤ last_second → berlin_clock s < day_start 330180
clock_to s h g =
    let i : ℕ = (s + 3600) / 86400 - 9496 in
    let k : ℕ = (year_of i).0 in
    let y = in_year_lem i (omega arith) in
    let n = sundays k in
    let m = start_mono year_len (suc k) 904 (omega arith) in
    let v = year_at_lem s i ((s + 3600) % 86400) (1996 + k) (omega arith) (omega arith) (year_name i) in
    elim (dec_lt s (summer_to (1996 + k))) [
      | yes l ↦ offset_cases s (λ e. omega arith) (λ e. omega (arith, start_all))
      | no l ↦ let e = after_summer s (1996 + k) v (omega arith) (omega arith) in omega arith
    ]

-- the converses: no instant outside the limits has a Berlin day of the calendar
pub clock_first : (s : ℕ) → day_start 0 ≤ berlin_clock s → first_second ≤ s
clock_first s h =
    elim (dec_le first_second s) [
      | yes l ↦ l
      | no l ↦
          offset_cases s
          (λ e. omega arith)
          (λ e. let n = sundays 0 in let w = winter_early 0 s (omega arith) (omega (arith, start_none)) (omega arith) in
          omega arith)
    ]

pub clock_final : (s : ℕ) → berlin_clock s < day_start 330180 → s ≤ last_second
clock_final s h = offset_cases s (λ e. omega arith) (λ e. omega arith)
