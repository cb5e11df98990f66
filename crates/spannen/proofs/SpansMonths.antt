-- What months say of spans.
--   KeepsDay n i   the month n months after that of day i has its day of the month: adding n months cuts no day
--   m_kept         where no day is cut, M(n, i) is day i and n months
--   month_iff      t ≤ a less n months  exactly if  M(n, t) ≤ a
--   m_later_iff    M(n, t) is t and n months  exactly if  no day is cut
--   later_day_iff  the day n months later has the day of the month of t  exactly if  no day is cut
-- Source: document 01, 'The span of anchors': M(m, d).
-- Assumes nothing.
use Prim.Native.Nat.{ℕ, suc, ◌+◌, ◌-◌, ◌≤◌, ◌<◌, min}
use mathlib.Core.Logic.{◌↔◌}
use mathlib.Core.Path.{◌≡◌, sym, ◌∙◌}
use native.Mathlib.Omega.{arith}
use native.Mathlib.Decide.{dec_le}
use lib.IntN.{pos, pos-+ℤ-pos}
use borrow.Author.Tests.{le-leb, lt-leb}
use Rattle.zaehlung.specs.Walk.{last}
use Rattle.zaehlung.specs.Blocks.{start}
use Rattle.zaehlung.proofs.BlockLaws.{start_suc}
use Rattle.datum.specs.Calendar.{date_of}
use Rattle.datum.specs.MonthShift.{ordinal_of, on_month, add_months, subtract_months}
use Rattle.datum.proofs.Signed.{sub_pos, sub_neg}
use Rattle.datum.specs.Monate.{to_step, months_later, months_earlier, M}
use Rattle.spannen.proofs.MonthSpan.{back_day, kept, cut}
use Rattle.spannen.proofs.MonthRun.{month_days, origin, month_has, day_run, on_run, on_day}
use Rattle.std.specs.Prelude.{Some, None}

-- the number of a day's month, and the day in it, from 0 on
abbrev month_at : ℕ → ℕ
month_at i = ordinal_of (date_of i)

abbrev day_at : ℕ → ℕ
day_at i = (date_of i).day - 1

abbrev pub KeepsDay : ℕ → ℕ → Type 0
KeepsDay n i = (date_of i).day ≤ month_days (month_at i + n)

by_day : {A : Type 0} (n i : ℕ) → (KeepsDay n i → A) → (month_days (month_at i + n) < (date_of i).day → A) → A
by_day n i f g = elim (dec_le (date_of i).day (month_days (month_at i + n))) [ yes h ↦ f h | no h ↦ g (omega arith) ]

earlier_in : (i n : ℕ) → n ≤ month_at i → months_earlier i n ≡ to_step (on_month (pos (month_at i - n)) (date_of i).day)
unfolding months_earlier subtract_months
earlier_in i n h = rw (sub_pos (month_at i) n h)

earlier_out : (i n : ℕ) → month_at i < n → months_earlier i n ≡ None
unfolding months_earlier subtract_months on_month
earlier_out i n h = rw (sub_neg (month_at i) n h)

earlier_run :
    (i n x : ℕ) → i ≤ last → months_earlier i n ≡ Some x →
    (n ≤ month_at i) × (x + origin ≡ back_day month_days (month_at i) (day_at i) n)
earlier_run i n x h p =
    elim (dec_le n (month_at i)) [
      | yes g ↦
          let r = day_run i h in
          let m = month_has (month_at i - n) in
          (g, omega (arith, on_run (month_at i - n) (date_of i).day x (sym (earlier_in i n g) ∙ p)))
      | no g ↦ let q = earlier_out i n (omega arith) in let z : ◌≡◌ {A = ℕ} 0 1 = cc in absurd (omega arith)
    ]

later_in : (i n : ℕ) → months_later i n ≡ to_step (on_month (pos (month_at i + n)) (date_of i).day)
unfolding months_later add_months
later_in i n = rw (pos-+ℤ-pos (month_at i) n)

later_run :
    (i n y : ℕ) → months_later i n ≡ Some y →
    y + origin ≡ start month_days (month_at i + n) + (min (date_of i).day (month_days (month_at i + n)) - 1)
later_run i n y p = on_run (month_at i + n) (date_of i).day y (sym (later_in i n) ∙ p)

pub m_kept : (n i : ℕ) → KeepsDay n i → M n i ≡ months_later i n
unfolding M
m_kept n i h = rw (le-leb (date_of i).day (month_days (month_at i + n)) h) (sym (later_in i n))

m_cut : (n i : ℕ) → month_days (month_at i + n) < (date_of i).day →
    M n i ≡ to_step (on_month (pos (suc (month_at i + n))) 1)
unfolding M
m_cut n i h = rw (lt-leb (date_of i).day (month_days (month_at i + n)) h)

-- the first of the month after
cut_run :
    (n i f : ℕ) → month_days (month_at i + n) < (date_of i).day → M n i ≡ Some f →
    f + origin ≡ start month_days (suc (month_at i + n))
cut_run n i f h p =
    let o : ℕ = suc (month_at i + n) in
    omega (arith, on_run o 1 f (sym (m_cut n i h) ∙ p), month_has o)

pub month_iff : (t a n x f : ℕ) → t ≤ last → a ≤ last → months_earlier a n ≡ Some x → M n t ≡ Some f → (t ≤ x) ↔ (f ≤ a)
month_iff t a n x f h g p q =
    let r = day_run t h in
    let s = day_run a g in
    let e = earlier_run a n x g p in
    let m = month_has (month_at a - n) in
    by_day n t
    (λ l.
    let k = kept month_days (month_at t) (day_at t) (month_at a) (day_at a) n (omega arith) (omega arith) e.0 m
    (omega arith) in
    let u = later_run t n f (sym (m_kept n t l) ∙ q) in
    (λ y. omega (arith, k.0 (omega arith)), λ y. omega (arith, k.1 (omega arith))))
    (λ l.
    let k = cut month_days (month_at t) (day_at t) (month_at a) (day_at a) n (omega arith) (omega arith) e.0 m
    (omega arith) in
    let u = cut_run n t f l q in
    (λ y. omega (arith, k.0 (omega arith)), λ y. omega (arith, k.1 (omega arith))))

pub m_later_iff : (t n f y : ℕ) → M n t ≡ Some f → months_later t n ≡ Some y → (f ≡ y) ↔ KeepsDay n t
m_later_iff t n f y p q =
    by_day n t
    (λ l. let e = m_kept n t l in (λ _. l, λ _. cc))
    (λ l.
    let o : ℕ = month_at t + n in
    let u = later_run t n y q in
    let v = cut_run n t f l p in
    (λ e. absurd (omega (arith, start_suc month_days o, month_has o)), λ k. absurd (omega arith)))

pub later_day_iff : (t n y : ℕ) → t ≤ last → months_later t n ≡ Some y →
    ((date_of y).day ≡ (date_of t).day) ↔ KeepsDay n t
later_day_iff t n y h p =
    let e = on_day (month_at t + n) (date_of t).day y (day_run t h).1 (sym (later_in t n) ∙ p) in
    (λ q. omega arith, λ k. omega arith)
