-- The verdict of each shape against its span, for any test w of a day: unless one of the two is refused, an anchor is
-- acceptable exactly if it lies in the span.
--   shape_spans    the law, for every shape
-- Source: document 01, 'The span of anchors'.
-- Assumes nothing.
use Prim.Native.Nat.{ℕ, ◌≤◌}
use mathlib.Core.Bool.{Bool}
use mathlib.Core.Logic.Iff
use mathlib.Core.Path.{◌≡◌}
use native.Mathlib.Omega.{arith}
use Rattle.zaehlung.specs.Walk.{last, on_step, day_after, day_before, add, sub, W, between}
use Rattle.zaehlung.proofs.Laws.{w_inside, day_after_is, day_before_is, on_step_day}
use Rattle.datum.specs.Monate.{months_earlier, months_later, M}
use Rattle.vorlauf.specs.declared.VorlaufShape.{VorlaufShape}
use Rattle.vorlauf.specs.declared.VorlaufShape.TheVariants.{LatestWerktageBefore, WindowWerktageBefore}
use Rattle.vorlauf.specs.declared.VorlaufShape.TheVariants.{LatestWerktageAfter, EarliestWerktageAfter, Korridor}
use Rattle.vorlauf.specs.declared.VorlaufShape.TheVariants.{TagVorDemLetztenWerktagVor, LatestMonateBefore}
use Rattle.vorlauf.specs.declared.VorlaufShape.TheVariants.{LatestMonateUndWerktageBefore}
use Rattle.vorlauf.specs.Verdict.{closes, reaches, fruehester_termin_nach_tag_vor_dem_letzten_werktag, check_of}
use Rattle.vorlauf.specs.Span.{span_of}
use Rattle.spannen.proofs.SpansSteps.{before_iff, after_iff, tag_iff}
use Rattle.spannen.proofs.SpansMonths.{month_iff}
use Rattle.spannen.proofs.SpansCases.{Spans, day_accepts, upto_ok, window_ok, from_spans, both_spans}
use Rattle.std.specs.Prelude.{Some, None}

module _ (w : ℕ → Bool) (t : ℕ) (ht : t ≤ last) (a : ℕ) (ha : a ≤ last) where
  before_spans : (n : ℕ) → Spans (span_of w (LatestWerktageBefore n) t) (check_of w (LatestWerktageBefore n) t a) a
  unfolding span_of check_of closes reaches
  before_spans n =
      from_spans (W w t n) _ a (λ f q.
      day_accepts (sub w a n) _ (λ e p _.
      upto_ok w t e (add w t n) (before_iff w t a n e f ht p q)))

  window_spans :
      (earliest latest : ℕ) →
      Spans (span_of w (WindowWerktageBefore earliest latest) t) (check_of w (WindowWerktageBefore earliest latest) t a)
      a
  unfolding span_of check_of closes reaches
  window_spans earliest latest =
      both_spans (W w t latest) (add w t earliest) _ a (λ f l q r.
      day_accepts (sub w a latest) _ (λ c s.
      day_accepts (sub w a earliest) _ (λ o p _.
      window_ok w t o c (between w t o) (add w t latest)
      (before_iff w t a latest c f ht s q)
      (Iff.symm (after_iff w a t earliest l o ht r p)))))

  after_spans : (n : ℕ) → Spans (span_of w (LatestWerktageAfter n) t) (check_of w (LatestWerktageAfter n) t a) a
  unfolding span_of check_of closes reaches
  after_spans n =
      from_spans (sub w t n) _ a (λ f q.
      day_accepts (add w a n) _ (λ e p _.
      upto_ok w t e (Some a) (after_iff w t a n e f ha p q)))

  earliest_spans : (n : ℕ) → Spans (span_of w (EarliestWerktageAfter n) t) (check_of w (EarliestWerktageAfter n) t a) a
  unfolding span_of check_of closes reaches
  earliest_spans n =
      from_spans (add w t n) _ a (λ f q.
      day_accepts (add w t n) _ (λ e p.
      let s : e ≡ f = cc in
      λ _. upto_ok w e a (Some e) (λ h. omega arith, λ h. omega arith)))

  korridor_spans : (n : ℕ) → Spans (span_of w (Korridor n) t) (check_of w (Korridor n) t a) a
  unfolding span_of check_of closes reaches
  korridor_spans n =
      both_spans (sub w t n) (add w t n) _ a (λ f l q r.
      day_accepts (add w a n) _ (λ c s.
      day_accepts (sub w a n) _ (λ o p _.
      window_ok w t o c (between w t o) (Some o) (after_iff w t a n c f ha s q)
      (Iff.symm (after_iff w a t n l o ht r p)))))

  tag_spans : Spans (span_of w TagVorDemLetztenWerktagVor t) (check_of w TagVorDemLetztenWerktagVor t a) a
  unfolding span_of check_of closes reaches
  tag_spans =
      from_spans (on_step None (add w t 1) day_after) _ a (λ f q.
      let x = on_step_day (add w t 1) day_after f q in
      let y = day_after_is x.0 f x.2 in
      day_accepts (on_step None (sub w a 1) day_before) _ (λ c r.
      let u = on_step_day (sub w a 1) day_before c r in
      let z = day_before_is u.0 c u.2 in
      let i = tag_iff w t a u.0 x.0 ht u.1 x.1 in
      λ _. upto_ok w t c (fruehester_termin_nach_tag_vor_dem_letzten_werktag w t)
      (λ h. omega (arith, i.0 (omega arith)), λ h. omega (arith, i.1 (omega arith)))))

  month_spans : (n : ℕ) → Spans (span_of w (LatestMonateBefore n) t) (check_of w (LatestMonateBefore n) t a) a
  unfolding span_of check_of closes reaches
  month_spans n =
      from_spans (M n t) _ a (λ f q.
      day_accepts (months_earlier a n) _ (λ x p.
      day_accepts (months_later t n) _ (λ y _ _.
      upto_ok w t x (Some y) (month_iff t a n x f ht ha p q))))

  month_werktag_spans :
      (monate werktage : ℕ) →
      Spans (span_of w (LatestMonateUndWerktageBefore monate werktage) t)
      (check_of w (LatestMonateUndWerktageBefore monate werktage) t a) a
  unfolding span_of check_of closes reaches
  month_werktag_spans monate werktage =
      from_spans (on_step None (W w t werktage) (M monate)) _ a (λ f q.
      let z = on_step_day (W w t werktage) (M monate) f q in
      day_accepts (on_step None (months_earlier a monate) (λ d. sub w d werktage)) _ (λ c r.
      let u = on_step_day (months_earlier a monate) (λ d. sub w d werktage) c r in
      day_accepts (add w t werktage) _ (λ d _.
      day_accepts (months_later d monate) _ (λ y _ _.
      upto_ok w t c (Some y)
      (Iff.trans
      (before_iff w t u.0 werktage c z.0 ht u.2 z.1)
      (month_iff z.0 a monate u.0 f (w_inside w t werktage z.0 ht z.1) ha u.1 z.2))))))

  pub shape_spans : (s : VorlaufShape) → Spans (span_of w s t) (check_of w s t a) a
  shape_spans (LatestWerktageBefore n) = before_spans n
  shape_spans (WindowWerktageBefore earliest latest) = window_spans earliest latest
  shape_spans (LatestWerktageAfter n) = after_spans n
  shape_spans (EarliestWerktageAfter n) = earliest_spans n
  shape_spans (Korridor n) = korridor_spans n
  shape_spans TagVorDemLetztenWerktagVor = tag_spans
  shape_spans (LatestMonateBefore n) = month_spans n
  shape_spans (LatestMonateUndWerktageBefore monate werktage) = month_werktag_spans monate werktage
