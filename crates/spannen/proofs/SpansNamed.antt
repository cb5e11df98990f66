-- The date that a TooLate names, against the first day of the span, for any test w of a day.
--   next_after      the day after the first open day after t, as the verdict computes it, is as the span does
--   earliest_named  EarliestWerktageAfter names the first day; tag_named TagVorDemLetztenWerktagVor does
--   month_named     LatestMonateBefore does exactly if no day was cut
--   before_named    LatestWerktageBefore(n) does exactly if n is 0, or t and the first day are open; window_named the
--                   window
--   after_named     LatestWerktageAfter never does; korridor_named Korridor never does
--   after_not       the date that LatestWerktageAfter names is not acceptable; korridor_not that of Korridor
--   before_ok       the date that LatestWerktageBefore(n) names is acceptable exactly if t is open, n at least 1
-- Source: document 01, 'The span of anchors': the Rust's date of a TooLate.
-- Assumes nothing.
use Prim.Native.Nat.{ℕ, suc, ◌≤◌, ◌<◌}
use mathlib.Core.Bool.{Bool, true}
use mathlib.Core.Logic.Iff
use mathlib.Core.Logic.{◌↔◌, ◌≢◌, ◌⊎◌}
use mathlib.Core.Path.{◌≡◌, refl, sym, ap, ◌∙◌}
use native.Mathlib.Omega.{arith}
use native.Mathlib.Decide.{dec_lt}
use borrow.Author.Tests.{lt-ltb, le-ltb}
use Rattle.zaehlung.specs.Walk.{last, on_step, day_after, add, sub, next, W, between, count}
use Rattle.zaehlung.proofs.Count.{count_open}
use Rattle.zaehlung.proofs.Laws.{add_iff, add_out_iff, next_iff, next_out_iff}
use Rattle.zaehlung.proofs.Reach.{sub_day}
use Rattle.datum.specs.Calendar.{date_of}
use Rattle.datum.specs.Monate.{M}
use Rattle.vorlauf.specs.declared.VorlaufShape.TheVariants.{LatestWerktageBefore, WindowWerktageBefore}
use Rattle.vorlauf.specs.declared.VorlaufShape.TheVariants.{LatestWerktageAfter, EarliestWerktageAfter, Korridor}
use Rattle.vorlauf.specs.declared.VorlaufShape.TheVariants.{TagVorDemLetztenWerktagVor, LatestMonateBefore}
use Rattle.vorlauf.specs.declared.VorlaufVerdict.TheVariants.{Ok, TooLate}
use Rattle.vorlauf.specs.declared.Span.{Span}
use Rattle.vorlauf.specs.declared.Span.TheVariants.{From, Both, Empty}
use Rattle.vorlauf.specs.Verdict.{closes, reaches, fruehester_termin_nach_tag_vor_dem_letzten_werktag, check_of}
use Rattle.vorlauf.specs.Span.{span_from, span_between, span_of, Begins}
use Rattle.spannen.proofs.SpansSteps.{after_iff, add_mono, w_add_iff, back_iff, back_out}
use Rattle.spannen.proofs.SpansMonths.{m_kept, m_later_iff, later_day_iff}
use Rattle.spannen.proofs.SpansCases.{day_cases, late_not, refused_not, upto_ok, window_ok, from_begins}
use Rattle.spannen.proofs.SpansCases.{both_begins}
use Rattle.spannen.proofs.SpansLate.{late_says}
use Rattle.std.specs.Prelude.{Option, Some, None}

module _ (w : ℕ → Bool) where
  next_add : (t : ℕ) → t < last → next w (suc t) ≡ add w t 1
  next_add t h = go (add w t 1) refl
    where
      go : (s : Option ℕ) → add w t 1 ≡ s → next w (suc t) ≡ add w t 1
      go (Some e) p =
          let r = (add_iff w t 1 e (omega arith) (omega arith)).0 p in
          (next_iff w (suc t) e h).1 (r.0, omega (arith, count_open w e r.0), r.2) ∙ sym p
      go None p = (next_out_iff w (suc t) h).1 ((add_out_iff w t 1 (omega arith)).0 p) ∙ sym p

  pub next_after :
      (t : ℕ) → t ≤ last → fruehester_termin_nach_tag_vor_dem_letzten_werktag w t ≡ on_step None (add w t 1) day_after
  unfolding fruehester_termin_nach_tag_vor_dem_letzten_werktag day_after
  next_after t h =
      elim (dec_lt t last) [
        | yes l ↦ rw (lt-ltb t last l) (rw (next_add t l))
        | no l ↦
            let e : t ≡ last = omega arith in
            let c = ap (λ (x : ℕ). count w (suc x)) e in
            let q : add w t 1 ≡ None = (add_out_iff w t 1 h).1 (omega arith) in
            rw (le-ltb t last (omega arith), q)
      ]

-- a span has one first day
begins_one : (p : Option Span) (f y : ℕ) → Begins p f → Begins p y ↔ (f ≡ y)
begins_one (Some (From d)) f y g = (λ e. cc, λ e. cc)
begins_one (Some (Both d l)) f y g = (λ e. cc, λ e. cc)
begins_one (Some Empty) f y g = absurd g
begins_one None f y g = absurd g

module _ (w : ℕ → Bool) (t : ℕ) (ht : t ≤ last) (a : ℕ) (ha : a ≤ last) (b y : ℕ) where
  pub earliest_named :
      (n : ℕ) → check_of w (EarliestWerktageAfter n) t a ≡ (Some (TooLate b y)) →
      Begins (span_of w (EarliestWerktageAfter n) t) y
  unfolding span_of
  earliest_named n e = (from_begins (add w t n) y).1 (late_says w t a b y (EarliestWerktageAfter n) e).named

  pub tag_named :
      check_of w TagVorDemLetztenWerktagVor t a ≡ (Some (TooLate b y)) → Begins
      (span_of w TagVorDemLetztenWerktagVor t) y
  unfolding span_of
  tag_named e =
      (from_begins (on_step None (add w t 1) day_after) y).1
      (sym (next_after w t ht) ∙ (late_says w t a b y TagVorDemLetztenWerktagVor e).named)

  pub month_named :
      (n : ℕ) → check_of w (LatestMonateBefore n) t a ≡ (Some (TooLate b y)) →
      Begins (span_of w (LatestMonateBefore n) t) y ↔ ((date_of y).day ≡ (date_of t).day)
  unfolding span_of
  month_named n e =
      let q = (late_says w t a b y (LatestMonateBefore n) e).named in
      let i = later_day_iff t n y ht q in (
        λ g. i.1 ((m_later_iff t n y y ((from_begins (M n t) y).0 g) q).0 refl),
        λ d. (from_begins (M n t) y).1 (m_kept n t (i.0 d) ∙ q),
      )

  pub before_named :
      (n f : ℕ) → Begins (span_of w (LatestWerktageBefore n) t) f →
      check_of w (LatestWerktageBefore n) t a ≡ (Some (TooLate b y)) →
      Begins (span_of w (LatestWerktageBefore n) t) y ↔ ((n ≡ 0) ⊎ ((w t ≡ true) × (w f ≡ true)))
  unfolding span_of
  before_named n f g e =
      Iff.trans (begins_one (span_from (W w t n)) f y g)
      (w_add_iff w t n f y ht ((from_begins (W w t n) f).0 g) (late_says w t a b y (LatestWerktageBefore n) e).named)

  pub window_named :
      (n m f : ℕ) → Begins (span_of w (WindowWerktageBefore n m) t) f →
      check_of w (WindowWerktageBefore n m) t a ≡ (Some (TooLate b y)) →
      Begins (span_of w (WindowWerktageBefore n m) t) y ↔ ((m ≡ 0) ⊎ ((w t ≡ true) × (w f ≡ true)))
  unfolding span_of
  window_named n m f g e =
      Iff.trans (begins_one (span_between (W w t m) (add w t n)) f y g)
      (w_add_iff w t m f y ht (both_begins (W w t m) (add w t n) f g)
      (late_says w t a b y (WindowWerktageBefore n m) e).named)

  -- a date by an anchor whose n-th open day after it is before t is no first day, and is not acceptable
  by_anchor : (n c : ℕ) → add w a n ≡ Some c → c < t → y ≤ a → sub w t n ≡ Some y → ⊥
  by_anchor n c p h g q = omega (arith, (after_iff w t a n c y ha p q).1 g)

  -- LatestWerktageAfter names the anchor, whose n-th open day after it is before t
  after_late :
      (n : ℕ) → check_of w (LatestWerktageAfter n) t a ≡ (Some (TooLate b y)) → (c : ℕ) × (y ≡ a) ×
      (add w a n ≡ Some c) × (c < t)
  unfolding closes reaches
  after_late n e =
      let r = late_says w t a b y (LatestWerktageAfter n) e in
      let q : t ≡ r.held = cc r.reached in
      (r.last_day_lem, cc r.named, r.closed, omega (arith, r.after))

  pub after_named :
      (n : ℕ) → check_of w (LatestWerktageAfter n) t a ≡ (Some (TooLate b y)) → Begins (span_of w
      (LatestWerktageAfter n) t) y →
      ⊥
  unfolding span_of
  after_named n e g =
      let r = after_late n e in
      by_anchor n r.0 r.2 r.3 (omega (arith, r.1)) ((from_begins (sub w t n) y).0 g)

  -- its verdict on that very anchor is the TooLate
  pub after_not :
      (n : ℕ) → check_of w (LatestWerktageAfter n) t a ≡ (Some (TooLate b y)) → check_of w (LatestWerktageAfter n) t y ≢
      (Some Ok)
  after_not n e = let q = (after_late n e).1 in rw q (λ o. late_not (sym e ∙ o))

  -- Korridor names its opening day, by the anchor
  korridor_late :
      (n : ℕ) → check_of w (Korridor n) t a ≡ (Some (TooLate b y)) → (c : ℕ) × (y ≤ a) × (add w a n ≡ Some c) × (c < t)
  unfolding closes reaches
  korridor_late n e =
      let r = late_says w t a b y (Korridor n) e in
      let q : t ≡ r.held = cc r.reached in
      (r.last_day_lem, ((sub_day w a n y).0 r.named).before, r.closed, omega (arith, r.after))

  pub korridor_named :
      (n : ℕ) → check_of w (Korridor n) t a ≡ (Some (TooLate b y)) → Begins (span_of w (Korridor n) t) y → ⊥
  unfolding span_of
  korridor_named n e g =
      let r = korridor_late n e in
      by_anchor n r.0 r.2 r.3 r.1 (both_begins (sub w t n) (add w t n) y g)

  -- the n-th open day after it comes no later than that after the anchor, which is before t
  pub korridor_not :
      (n : ℕ) → check_of w (Korridor n) t a ≡ (Some (TooLate b y)) → check_of w (Korridor n) t y ≢ (Some Ok)
  unfolding check_of closes reaches
  korridor_not n e =
      let r = korridor_late n e in
      day_cases (λ v. v ≢ (Some Ok)) (add w y n) _
      (λ _. refused_not)
      (λ c p.
      let m = add_mono w y a n c r.0 ha r.1 p r.2 in
      day_cases (λ v. v ≢ (Some Ok)) (sub w y n) _
      (λ _. refused_not)
      (λ o _ k.
      let i = window_ok {A = t ≤ c} {B = o ≤ t} w t o c (between w t o) (Some o) (λ z. z, λ z. z) (λ z. z, λ z. z) in
      omega (arith, r.3, (i.0 k).0)))

  pub before_ok :
      (n : ℕ) → 1 ≤ n → check_of w (LatestWerktageBefore n) t a ≡ (Some (TooLate b y)) →
      (check_of w (LatestWerktageBefore n) t y ≡ (Some Ok)) ↔ (w t ≡ true)
  unfolding check_of closes reaches
  before_ok n m e =
      let p = (late_says w t a b y (LatestWerktageBefore n) e).named in
      day_cases (λ v. (v ≡ (Some Ok)) ↔ (w t ≡ true)) (sub w y n) _
      (λ q. (λ z. absurd (refused_not z), λ o. absurd (back_out w t n y ht m p q o)))
      (λ c q. upto_ok w t c (add w t n) (back_iff w t n y c ht m p q))
