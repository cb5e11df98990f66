-- Dates as days of one run of months: the month numbered o, counted from January of year 0, is block o.
--   month_days o  = days of the month numbered o
--   origin        = days of the months before January 1996
--   month_has     a month has days
--   date_run      a date's index and `origin` are the days of all months before its own, and the days before it in that
--   day_run       the same of the date of an index, which has the day
--   on_run        the same of a date that a shift by months reached
--   on_day        its day is the one asked for, or the month's last
-- Source: document 01, lib.rs, months.
-- Assumes nothing.
use Prim.Native.Nat.{ℕ, zero, suc, ◌+◌, ◌-◌, ◌*◌, ◌/◌, ◌%◌, ◌≤◌, ◌<◌, min}
use mathlib.Core.Path.{◌≡◌, refl, ap}
use native.Mathlib.Omega.{arith}
use native.Mathlib.Nat.{add-zero, add-suc}
use native.Mathlib.Decide.{dec_le}
use lib.IntN.{pos}
use Rattle.zaehlung.specs.Walk.{last}
use Rattle.zaehlung.specs.Blocks.{start}
use Rattle.zaehlung.proofs.BlockLaws.{start_suc}
use Rattle.datum.specs.declared.Date.{Date}
use Rattle.datum.specs.Calendar.{is_leap, days_in_month, month_start, year_len, year_start, days_before, date_of}
use Rattle.datum.specs.MonthShift.{ordinal_of, on_month}
use Rattle.datum.proofs.Dates.{len_ge, year_len_at, months_sum, month_first, index_date, date_index}
use Rattle.datum.proofs.Months.{day_of, on_in, on_out, on_before, on_valid}
use Rattle.datum.proofs.Years.{start_none}
use Rattle.datum.specs.Monate.{to_step}
use Rattle.std.specs.Prelude.{Some}

abbrev pub month_days : ℕ → ℕ
month_days o = days_in_month (is_leap (o / 12)) (o % 12 + 1)

abbrev pub origin : ℕ
origin = start month_days (1996 * 12)

pub month_has : (o : ℕ) → 1 ≤ month_days o
month_has o = omega (arith, len_ge (is_leap (o / 12)) (o % 12 + 1) (omega arith) (omega arith))

-- month j of year y, from 0 on
month_at_lem : (y j : ℕ) → j < 12 → month_days (y * 12 + j) ≡ days_in_month (is_leap y) (suc j)
month_at_lem y j h =
    let q : (y * 12 + j) / 12 ≡ y = omega arith in
    let r : (y * 12 + j) % 12 + 1 ≡ suc j = omega arith in
    rw (q, r)

year_run : (y j : ℕ) → j ≤ 12 →
    start month_days (y * 12 + j) ≡ start month_days (y * 12) + month_start (is_leap y) (suc j)
year_run y zero h = rw add-zero (omega (arith, month_first (is_leap y)))
year_run y (suc j) h =
    rw add-suc
    (omega (
      arith,
      year_run y j (omega arith),
      start_suc month_days (y * 12 + j),
      start_suc (days_in_month (is_leap y)) (suc j),
      month_at_lem y j (omega arith),
    ))

years_run : (k : ℕ) → start month_days ((1996 + k) * 12) ≡ origin + year_start k
years_run zero = omega (arith, start_none)
years_run (suc k) =
    let e : (1996 + suc k) * 12 ≡ (1996 + k) * 12 + 12 = omega arith in
    rw e
    (omega (
      arith,
      years_run k,
      year_run (1996 + k) 12 (omega arith),
      months_sum (is_leap (1996 + k)),
      start_suc year_len k,
      year_len_at (1996 + k) k refl,
    ))

pub date_run :
    (d : Date) → 1996 ≤ d.year → 1 ≤ d.month → d.month ≤ 12 →
    days_before d + origin ≡ start month_days (ordinal_of d) + (d.day - 1)
date_run d h g k =
    let y : ℕ = d.year in
    let e : 1996 + (y - 1996) ≡ y = omega arith in
    let a = ap (λ (x : ℕ). start month_days (x * 12)) e in
    let q : suc (d.month - 1) ≡ d.month = omega arith in
    let b = ap (month_start (is_leap y)) q in
    omega (arith, years_run (y - 1996), year_run y (d.month - 1) (omega arith))

-- a day of the calendar: its month has the day
pub day_run :
    (i : ℕ) → i ≤ last →
    (i + origin ≡ start month_days (ordinal_of (date_of i)) + ((date_of i).day - 1)) × (1 ≤ (date_of i).day) ×
    ((date_of i).day ≤ month_days (ordinal_of (date_of i)))
day_run i h =
    let v = index_date i h in
    let d : Date = date_of i in
    let m = month_at_lem d.year (d.month - 1) (omega (arith, v.0.month_to, v.0.month_from)) in
    let q : suc (d.month - 1) ≡ d.month = omega (arith, v.0.month_from) in
    let b = ap (days_in_month (is_leap d.year)) q in (
      omega (arith, date_run d v.0.from v.0.month_from v.0.month_to),
      v.0.day_from,
      omega (arith, v.0.day_to),
    )

-- day x of the month numbered t
on_date_lem :
    (t x e : ℕ) → to_step (on_month (pos t) x) ≡ Some e →
    (1996 ≤ t / 12) × (t / 12 ≤ 2899) × (e ≡ days_before (day_of t x))
on_date_lem t x e p =
    elim (dec_le 1996 (t / 12)) [
      | yes h ↦
          elim (dec_le (t / 12) 2899) [
            | yes g ↦ let q = ap to_step (on_in t x h g) in (h, g, (cc))
            | no g ↦
                let q = ap to_step (on_out t x (omega arith)) in
                let z : ◌≡◌ {A = ℕ} 0 1 = cc in absurd (omega arith)
          ]
      | no h ↦ let q = ap to_step (on_before t x (omega arith)) in let z : ◌≡◌ {A = ℕ} 0 1 = cc in absurd (omega arith)
    ]

pub on_run :
    (t x e : ℕ) → to_step (on_month (pos t) x) ≡ Some e → e + origin ≡ start month_days t + (min x (month_days t) - 1)
on_run t x e p =
    let r = on_date_lem t x e p in
    let q : t / 12 * 12 + (t % 12 + 1 - 1) ≡ t = omega arith in
    let b = ap (start month_days) q in
    omega (arith, date_run (day_of t x) r.0 (omega arith) (omega arith))

pub on_day : (t x e : ℕ) → 1 ≤ x → to_step (on_month (pos t) x) ≡ Some e → (date_of e).day ≡ min x (month_days t)
on_day t x e h p = let r = on_date_lem t x e p in rw (r.2, date_index (day_of t x) (on_valid t x h r.0 r.1))
