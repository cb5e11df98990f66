-- Laws of shifts by months, on dates and on indexes.
--   day_of t x            = day x of the month numbered t, cut to the month's last
--   on_in on_out         on_month gives that day inside the calendar's years, and none past them; on_before none before
--                        them
--   on_valid             inside them it is a date of the range
--   on_reached           so what it reaches is that day
--   shift_date           a shift to a day from 1 on reaches a date of the range, or none
--   add_on               add_months d n is day d .day of the month numbered ordinal_of d + n
--   take_on take_before  subtract_months d n is that of the month numbered ordinal_of d - n, if there is one
--   added_date taken_date   so a shift of a date with a day from 1 on reaches a date of the range, or none
--   to_step_inside        the index of a date of the range is one of the calendar
--   later_inside earlier_inside m_inside   so is a day that a shift reaches
--   m_kept m_cut m_out   what M is, by what `add_months` gives: the day kept, the day cut, no date
-- Source: the definitions of Monate, and of MonthShift in datum.
-- Assumes nothing.
use Prim.Native.Nat.{ℕ, suc, ◌+◌, ◌-◌, ◌/◌, ◌%◌, ◌≤◌, ◌<◌, min}
use mathlib.Core.Bool.{Bool, true, false, cond}
use mathlib.Core.Path.{◌≡◌, refl, sym, ap, ◌∙◌}
use native.Mathlib.Omega.{arith}
use native.Mathlib.Decide.{dec_le}
use lib.Dec.{leb}
use lib.IntN.{ℤ, pos, negsuc, ◌+ℤ◌, ◌-ℤ◌, pos-+ℤ-pos}
use borrow.Author.Tests.{le-leb, lt-leb}
use Rattle.zaehlung.specs.Walk.{last}
use Rattle.datum.specs.declared.Date.{Date}
use Rattle.datum.specs.Calendar.{is_leap, days_in_month, days_before, date_of}
use Rattle.datum.specs.MonthShift.{ordinal_of, in_month, on_month, add_months, subtract_months}
use Rattle.datum.proofs.Dates.{Valid, valid_is, is_valid, len_ge, index_below, index_date}
use Rattle.datum.proofs.Signed.{sub_pos, sub_neg}
use Rattle.datum.specs.Inside.{InsideShift}
use Rattle.datum.specs.Monate.{to_step, months_later, months_earlier, M}
use Rattle.std.specs.Prelude.{Option, Some, None}

-- day x of the month numbered t, cut to the month's last
abbrev pub day_of : ℕ → ℕ → Date
day_of t x = record { year = t / 12; month = t % 12 + 1; day = min x (days_in_month (is_leap (t / 12)) (t % 12 + 1)) }

pub on_in : (t x : ℕ) → 1996 ≤ t / 12 → t / 12 ≤ 2899 → on_month (pos t) x ≡ Some (day_of t x)
unfolding on_month in_month
on_in t x a b = rw (le-leb 1996 (t / 12) a, le-leb (t / 12) 2899 b)

pub on_out : (t x : ℕ) → 2899 < t / 12 → on_month (pos t) x ≡ None
unfolding on_month in_month
on_out t x b = rw (le-leb 1996 (t / 12) (omega arith), lt-leb (t / 12) 2899 b)

pub on_before : (t x : ℕ) → t / 12 < 1996 → on_month (pos t) x ≡ None
unfolding on_month in_month
on_before t x b = rw (lt-leb 1996 (t / 12) b)

-- a date is reached inside the calendar's years, and is that day of the month
pub on_reached :
    (t x : ℕ) (e : Date) → on_month (pos t) x ≡ Some e → (1996 ≤ t / 12) × (t / 12 ≤ 2899) × (e ≡ day_of t x)
on_reached t x e q =
    elim (dec_le 1996 (t / 12)) [
      | no a ↦ let z : ◌≡◌ {A = ℕ} 0 1 = cc (on_before t x (omega arith)) in absurd (omega arith)
      | yes a ↦
          elim (dec_le (t / 12) 2899) [
            | no b ↦ let z : ◌≡◌ {A = ℕ} 0 1 = cc (on_out t x (omega arith)) in absurd (omega arith)
            | yes b ↦ (a, b, cc (on_in t x a b))
          ]
    ]

pub on_valid : (t x : ℕ) → 1 ≤ x → 1996 ≤ t / 12 → t / 12 ≤ 2899 → Valid (day_of t x)
on_valid t x h a b =
    let n = len_ge (is_leap (t / 12)) (t % 12 + 1) (omega arith) (omega arith) in
    record {
      from = a;
      to = b;
      month_from = omega arith;
      month_to = omega arith;
      day_from = omega arith;
      day_to = omega arith;
    }

pub shift_date : (z : ℤ) (x : ℕ) → 1 ≤ x → InsideShift (on_month z x)
unfolding on_month
shift_date (negsuc t) x h = tt
shift_date (pos t) x h =
    elim (dec_le 1996 (t / 12)) [
      | no a ↦ rw (on_before t x (omega arith)) tt
      | yes a ↦
          elim (dec_le (t / 12) 2899) [
            | no b ↦ rw (on_out t x (omega arith)) tt
            | yes b ↦ rw (on_in t x a b) (is_valid (day_of t x) (on_valid t x h a b))
          ]
    ]

pub add_on : (d : Date) (n : ℕ) → add_months d n ≡ on_month (pos (ordinal_of d + n)) d.day
unfolding add_months
add_on d n = rw pos-+ℤ-pos

pub take_on : (d : Date) (n : ℕ) → n ≤ ordinal_of d → subtract_months d n ≡ on_month (pos (ordinal_of d - n)) d.day
unfolding subtract_months
take_on d n h = rw (sub_pos (ordinal_of d) n h)

pub take_before : (d : Date) (n : ℕ) → ordinal_of d < n → subtract_months d n ≡ None
unfolding subtract_months on_month
take_before d n h = rw (sub_neg (ordinal_of d) n h)

pub added_date : (d : Date) (n : ℕ) → 1 ≤ d.day → InsideShift (add_months d n)
unfolding add_months
added_date d n h = shift_date (pos (ordinal_of d) +ℤ pos n) d.day h

pub taken_date : (d : Date) (n : ℕ) → 1 ≤ d.day → InsideShift (subtract_months d n)
unfolding subtract_months
taken_date d n h = shift_date (pos (ordinal_of d) -ℤ pos n) d.day h

pub later_date : (i n : ℕ) → i ≤ last → InsideShift (add_months (date_of i) n)
later_date i n h = added_date (date_of i) n (index_date i h).0.day_from

pub earlier_date : (i n : ℕ) → i ≤ last → InsideShift (subtract_months (date_of i) n)
earlier_date i n h = taken_date (date_of i) n (index_date i h).0.day_from

pub to_step_inside : (s : Option Date) (e : ℕ) → InsideShift s → to_step s ≡ Some e → e ≤ last
to_step_inside (Some d) e v p = let q : days_before d ≡ e = cc in omega (arith, index_below d (valid_is d v))
to_step_inside None e v p = let z : ◌≡◌ {A = ℕ} 0 1 = cc in absurd (omega arith)

pub later_inside : (i n e : ℕ) → i ≤ last → months_later i n ≡ Some e → e ≤ last
unfolding months_later
later_inside i n e h p = to_step_inside (add_months (date_of i) n) e (later_date i n h) p

pub earlier_inside : (i n e : ℕ) → i ≤ last → months_earlier i n ≡ Some e → e ≤ last
unfolding months_earlier
earlier_inside i n e h p = to_step_inside (subtract_months (date_of i) n) e (earlier_date i n h) p

-- both ends of M are days of a month
either_inside :
    (b : Bool) (s u : Option Date) (e : ℕ) → InsideShift s → InsideShift u → cond b (to_step s) (to_step u) ≡ Some e →
    e ≤ last
either_inside true s u e v w p = to_step_inside s e v p
either_inside false s u e v w p = to_step_inside u e w p

pub m_inside : (n i e : ℕ) → i ≤ last → M n i ≡ Some e → e ≤ last
unfolding M
m_inside n i e h p =
    let d = date_of i in
    let t = ordinal_of d + n in
    either_inside (leb d.day (days_in_month (is_leap (t / 12)) (t % 12 + 1)))
    (on_month (pos t) d.day)
    (on_month (pos (suc t)) 1)
    e
    (shift_date (pos t) d.day (index_date i h).0.day_from)
    (shift_date (pos (suc t)) 1 (omega arith))
    p

-- the three ways through M, by what a shift by months gives; t is the number of the target month
module _ (n i : ℕ) (d : Date) (s : Option Date) (g : d ≡ date_of i) (p : s ≡ add_months d n) where
  t : ℕ
  t = ordinal_of d + n

  len : ℕ
  len = days_in_month (is_leap (t / 12)) (t % 12 + 1)

  m_is :
      (b : Bool) → leb d.day len ≡ b →
      M n i ≡ cond b (to_step (on_month (pos t) d.day)) (to_step (on_month (pos (suc t)) 1))
  unfolding M t len
  m_is b q = rw (← g, q)

  shifted : s ≡ on_month (pos t) d.day
  unfolding t
  shifted = p ∙ add_on d n

  -- a shift that reaches a date stays inside the calendar's years, and reaches that day of the target month
  reached : (e : Date) → s ≡ Some e → (1996 ≤ t / 12) × (t / 12 ≤ 2899) × (e ≡ day_of t d.day)
  reached e q = on_reached t d.day e (sym shifted ∙ q)

  pub m_kept : (e : Date) → s ≡ Some e → d.day ≤ e.day → Some (days_before e) ≡ M n i
  unfolding len
  m_kept e q h =
      let r = reached e q in
      let m = ap (λ (x : Date). x.day) r.2 in
      let k = m_is true (le-leb d.day len (omega arith)) in
      let l : to_step (on_month (pos t) d.day) ≡ Some (days_before e) = ap to_step (sym shifted ∙ q) in
      cc

  -- the first of the target month, and a month
  first_of :
      (e : Date) → e ≡ day_of t d.day → ordinal_of (record { year = e.year; month = e.month; day = 1 }) + 1 ≡ suc t
  first_of e q =
      let y = ap (λ (x : Date). x.year) q in
      let m = ap (λ (x : Date). x.month) q in
      omega arith

  pub m_cut :
      (e : Date) (v : Option Date) (u : Option ℕ) →
      s ≡ Some e → e.day < d.day → v ≡ add_months (record { year = e.year; month = e.month; day = 1 }) 1 → u ≡
      to_step v → u ≡ M n i
  unfolding len
  m_cut e v u q h f g' =
      let r = reached e q in
      let m = ap (λ (x : Date). x.day) r.2 in
      let k = m_is false (lt-leb d.day len (omega arith)) in
      let o = ap (λ (x : ℕ). on_month (pos x) 1) (first_of e r.2) in
      let l = ap to_step (f ∙ add_on (record { year = e.year; month = e.month; day = 1 }) 1 ∙ o) in
      cc

  pub m_out : i ≤ last → s ≡ None → None ≡ M n i
  unfolding t
  m_out h q =
      let y = (index_date i h).0.from in
      let g' = ap (λ (x : Date). x.year) g in
      let b : 2899 < t / 12 =
      elim (dec_le (t / 12) 2899) [
        | no b ↦ omega arith
        | yes b ↦ let z : ◌≡◌ {A = ℕ} 0 1 = cc (shifted, on_in t d.day (omega arith) b) in absurd (omega arith)
      ] in
      let e = ap to_step (on_out t d.day b) in
      let e' = ap to_step (on_out (suc t) 1 (omega arith)) in
      go (leb d.day len) refl e e'
    where
      go :
          (b : Bool) → leb d.day len ≡ b →
          to_step (on_month (pos t) d.day) ≡ None → to_step (on_month (pos (suc t)) 1) ≡ None → None ≡ M n i
      go true l e e' = cc (m_is true l)
      go false l e e' = cc (m_is false l)
