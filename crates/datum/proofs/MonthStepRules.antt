-- What the proofs of the shifts by months ask, with the premises in the form in which a proof has them: t is the
-- day, taken apart, s and v are what shifts returned, r and u steps.
--   month_some date_month tag_valid  the month of a date is one, and it is a date of the range: what a shift asks
--   *_dated first_dated        a shift reaches a date of the range: what `to_step` asks
--   date_valid                 so that date is one of the range: what `days_before` asks
--   to_step_on later_is earlier_is  the day of the date that was reached; the returns of `to_step`, `months_later` and
--                              `months_earlier`
--   date_gone date_kept date_first   the three returns of `months_or_first_date`; date_reached is what the second
--                                    promises
--   m_dated                    the return of `months_or_first`
--   month_rules = these, for `search (rules, ..)`
-- Source: the definitions of Monate.
-- Assumes nothing.
use Prim.Native.Nat.{ℕ, ◌≤◌, ◌<◌}
use mathlib.Core.Bool.{true}
use mathlib.Core.Path.{◌≡◌, refl, sym, ap, ◌∙◌}
use native.Mathlib.Omega.{arith}
use Rattle.zaehlung.specs.Walk.{last}
use Rattle.datum.specs.declared.Date.{Date}
use Rattle.datum.specs.Calendar.{is_date, days_before, date_of}
use Rattle.datum.specs.MonthShift.{add_months, subtract_months}
use Rattle.datum.proofs.Dates.{date_index, index_below, valid_is, is_valid}
use Rattle.datum.proofs.TagRules.{tag_is, tag_date}
use Rattle.datum.specs.Inside.{InsideShift}
use Rattle.datum.specs.Monate.{to_step, months_later, months_earlier, M}
use Rattle.datum.proofs.Months.{added_date, taken_date, m_kept, m_cut, m_out}
use Rattle.std.specs.Prelude.{Option, Some, None}

later_valid : (n : ℕ) (d : Date) (s : Option Date) → is_date d ≡ true → s ≡ add_months d n → InsideShift s
later_valid n d s v p = rw p (added_date d n (valid_is d v).day_from)

-- d is the date of the day i
module _ (i : ℕ) (d : Date) (e : d ≡ date_of i) (h : i ≤ last) where
  pub tag_valid : is_date d ≡ true
  tag_valid = is_valid d (tag_date i d e h).0

  pub month_some : 1 ≤ d.month
  month_some = (tag_date i d e h).0.month_from

  pub later_dated : (n : ℕ) (s : Option Date) → s ≡ add_months d n → InsideShift s
  later_dated n s p = later_valid n d s tag_valid p

  pub earlier_dated : (n : ℕ) (s : Option Date) → s ≡ subtract_months d n → InsideShift s
  earlier_dated n s p = rw p (taken_date d n (tag_date i d e h).0.day_from)

  pub m_dated : (n : ℕ) (s : Option Date) (u : Option ℕ) → to_step s ≡ M n (days_before d) → u ≡ to_step s → u ≡ M n i
  m_dated n s u p q = q ∙ p ∙ ap (M n) (tag_date i d e h).1

pub date_valid : (s : Option Date) (e : Date) → InsideShift s → s ≡ Some e → is_date e ≡ true
date_valid s e h p = rw p at h

pub to_step_on :
    (s : Option Date) (e : Date) (k : ℕ) → InsideShift s → s ≡ Some e → k ≡ days_before e → (e ≡ date_of k) × (k ≤ last)
to_step_on s e k h p q = tag_is e k (valid_is e (date_valid s e h p)) (sym q)

module _ (i n : ℕ) (d : Date) (s : Option Date) (r : Option ℕ) (e : d ≡ date_of i) (q : r ≡ to_step s) where
  pub later_is : s ≡ add_months d n → r ≡ months_later i n
  unfolding months_later
  later_is p = q ∙ ap to_step (p ∙ ap (λ (x : Date). add_months x n) e)

  pub earlier_is : s ≡ subtract_months d n → r ≡ months_earlier i n
  unfolding months_earlier
  earlier_is p = q ∙ ap to_step (p ∙ ap (λ (x : Date). subtract_months x n) e)

pub first_dated :
    (y m : ℕ) (s : Option Date) → s ≡ add_months (record { year = y; month = m; day = 1 }) 1 → InsideShift s
first_dated y m s p = rw p (added_date (record { year = y; month = m; day = 1 }) 1 (omega arith))

-- a date of the range is that of its own index
own_date : (d : Date) → is_date d ≡ true → d ≡ date_of (days_before d)
own_date d v = sym (date_index d (valid_is d v))

pub date_month : (d : Date) → is_date d ≡ true → 1 ≤ d.month
date_month d v = (valid_is d v).month_from

-- months_or_first_date: s is what `add_months` returned for d
module _ (d : Date) (n : ℕ) (s : Option Date) (v : is_date d ≡ true) (p : s ≡ add_months d n) where
  inside : days_before d ≤ last
  inside = index_below d (valid_is d v)

  pub date_gone : s ≡ None → None ≡ M n (days_before d)
  date_gone q = m_out n (days_before d) d s (own_date d v) p inside q

  module _ (e : Date) (q : s ≡ Some e) where
    pub date_reached : is_date e ≡ true
    date_reached = date_valid s e (later_valid n d s v p) q

    pub reached_month : 1 ≤ e.month
    reached_month = date_month e date_reached

    pub date_kept : d.day ≤ e.day → Some (days_before e) ≡ M n (days_before d)
    date_kept h = m_kept n (days_before d) d s (own_date d v) p e q h

    -- w is what it returned for the first of the month reached
    pub date_first :
        (w : Option Date) → e.day < d.day → w ≡ add_months (record { year = e.year; month = e.month; day = 1 }) 1 →
        to_step w ≡ M n (days_before d)
    date_first w h f = m_cut n (days_before d) d s (own_date d v) p e w (to_step w) q h f refl

pub ruleset date_shift_rules = (date_month, date_gone, date_reached, reached_month, date_kept, date_first, first_dated)

pub ruleset month_rules = (
  month_some,
  later_dated,
  earlier_dated,
  date_valid,
  to_step_on,
  later_is,
  earlier_is,
  tag_valid,
  m_dated,
)
