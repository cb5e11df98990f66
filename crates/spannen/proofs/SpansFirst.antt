-- The first day of a span, for any test w of a day.
--   accepted_least  an acceptable anchor is not before the first day
--   first_accepted  the first day is acceptable, if its verdict isn't refused
--   empty_rejects   where the span is empty, no anchor is acceptable
-- Source: document 01, 'The span of anchors': the words of demand 3.
-- Assumes nothing.
use Prim.Native.Nat.{ℕ, ◌≤◌}
use mathlib.Core.Bool.{Bool}
use mathlib.Core.Logic.{◌≢◌}
use mathlib.Core.Path.{◌≡◌}
use native.Mathlib.Omega.{arith}
use Rattle.zaehlung.specs.Walk.{last, on_step, day_after, add, sub, W}
use Rattle.zaehlung.proofs.Laws.{add_inside, sub_inside, w_inside, day_after_is, on_step_day}
use Rattle.datum.specs.Monate.{M}
use Rattle.datum.proofs.Months.{m_inside}
use Rattle.vorlauf.specs.declared.VorlaufShape.{VorlaufShape}
use Rattle.vorlauf.specs.declared.VorlaufShape.TheVariants.{LatestWerktageBefore, WindowWerktageBefore}
use Rattle.vorlauf.specs.declared.VorlaufShape.TheVariants.{LatestWerktageAfter, EarliestWerktageAfter, Korridor}
use Rattle.vorlauf.specs.declared.VorlaufShape.TheVariants.{TagVorDemLetztenWerktagVor, LatestMonateBefore}
use Rattle.vorlauf.specs.declared.VorlaufShape.TheVariants.{LatestMonateUndWerktageBefore}
use Rattle.vorlauf.specs.declared.VorlaufVerdict.TheVariants.{Ok}
use Rattle.vorlauf.specs.declared.Span.{Span}
use Rattle.vorlauf.specs.declared.Span.TheVariants.{From, Both, Empty}
use Rattle.vorlauf.specs.Verdict.{check_of}
use Rattle.vorlauf.specs.Span.{span_from, span_between, span_of, LiesIn, Begins}
use Rattle.spannen.proofs.SpansCases.{from_cases, both_cases}
use Rattle.spannen.proofs.SpansShapes.{shape_spans}
use Rattle.std.specs.Prelude.{Option, Some, None}

-- a span that has a first day stays inside the calendar
begins_inside : (p : Option Span) (f : ℕ) → Begins p f → p ≢ None
begins_inside (Some (From d)) f b e = let z : ◌≡◌ {A = ℕ} 0 1 = cc in omega arith
begins_inside (Some (Both d l)) f b e = let z : ◌≡◌ {A = ℕ} 0 1 = cc in omega arith
begins_inside (Some Empty) f b e = b
begins_inside None f b e = b

-- no anchor in a span is before its first day
first_least : (p : Option Span) (f a : ℕ) → Begins p f → LiesIn p a → f ≤ a
first_least (Some (From d)) f a b i = omega arith
first_least (Some (Both d l)) f a b i = omega arith
first_least (Some Empty) f a b i = absurd i
first_least None f a b i = absurd i

from_first :
    (s : Option ℕ) (f : ℕ) → ((d : ℕ) → s ≡ Some d → d ≤ last) → Begins (span_from s) f → LiesIn (span_from s) f ×
    (f ≤ last)
from_first s f g =
    from_cases (λ p. Begins p f → LiesIn p f × (f ≤ last)) s (λ b. absurd b)
    (λ d q b. (omega arith, omega (arith, g d q)))

both_first :
    (s u : Option ℕ) (f : ℕ) → ((d : ℕ) → s ≡ Some d → d ≤ last) → Begins (span_between s u) f →
    LiesIn (span_between s u) f × (f ≤ last)
both_first s u f g =
    both_cases (λ p. Begins p f → LiesIn p f × (f ≤ last)) s u
    (λ b. absurd b)
    (λ d l q _ m b. ((omega arith, omega arith), omega (arith, g d q)))
    (λ d l _ _ _ b. absurd b)

module _ (w : ℕ → Bool) (t : ℕ) (ht : t ≤ last) where
  -- the first day of a span lies in it, and is a day of the calendar
  first_lies : (f : ℕ) (s : VorlaufShape) → Begins (span_of w s t) f → LiesIn (span_of w s t) f × (f ≤ last)
  unfolding span_of
  first_lies f (LatestWerktageBefore n) = from_first (W w t n) f (λ d. w_inside w t n d ht)
  first_lies f (WindowWerktageBefore earliest latest) =
      both_first (W w t latest) (add w t earliest) f (λ d. w_inside w t latest d ht)
  first_lies f (LatestWerktageAfter n) = from_first (sub w t n) f (λ d. sub_inside w t n d ht)
  first_lies f (EarliestWerktageAfter n) = from_first (add w t n) f (λ d. add_inside w t n d ht)
  first_lies f (Korridor n) = both_first (sub w t n) (add w t n) f (λ d. sub_inside w t n d ht)
  first_lies f TagVorDemLetztenWerktagVor =
      from_first (on_step None (add w t 1) day_after) f (λ d p.
      let x = on_step_day (add w t 1) day_after d p in
      (day_after_is x.0 d x.2).1)
  first_lies f (LatestMonateBefore n) = from_first (M n t) f (λ d. m_inside n t d ht)
  first_lies f (LatestMonateUndWerktageBefore monate werktage) =
      from_first (on_step None (W w t werktage) (M monate)) f (λ d p.
      let x = on_step_day (W w t werktage) (M monate) d p in
      m_inside monate x.0 d (w_inside w t werktage x.0 ht x.1) x.2)

  -- an acceptable anchor lies in a span that stays inside the calendar
  accepted_lies :
      (s : VorlaufShape) (a : ℕ) → a ≤ last → span_of w s t ≢ None → check_of w s t a ≡ (Some Ok) → LiesIn
      (span_of w s t) a
  accepted_lies s a ha h p = (shape_spans w t ht a ha s h (λ q. let z : ◌≡◌ {A = ℕ} 0 1 = cc in omega arith)).0 p

  pub accepted_least :
      (s : VorlaufShape) (f a : ℕ) → a ≤ last → Begins (span_of w s t) f → check_of w s t a ≡ (Some Ok) →
      f ≤ a
  accepted_least s f a ha b p =
      first_least (span_of w s t) f a b (accepted_lies s a ha (begins_inside (span_of w s t) f b) p)

  pub first_accepted :
      (s : VorlaufShape) (f : ℕ) → Begins (span_of w s t) f → check_of w s t f ≢ None → check_of w s t f ≡ (Some Ok)
  first_accepted s f b h =
      let i = first_lies f s b in
      (shape_spans w t ht f i.1 s (begins_inside (span_of w s t) f b) h).1 i.0

  pub empty_rejects :
      (s : VorlaufShape) (a : ℕ) → a ≤ last → span_of w s t ≡ (Some Empty) → check_of w s t a ≢ (Some Ok)
  empty_rejects s a ha e p = rw e at (accepted_lies s a ha (λ q. let z : ◌≡◌ {A = ℕ} 0 1 = cc in omega arith) p)
