-- The span of anchors: the dates that a message of day t may ask for, for any test w of a day.
--   span_from s      = the span from the day of a step on; None where the step leaves the calendar
--   span_between s u = the span between the days of two steps, Empty if the first is later; None where either leaves
--   span_of w s t    = the span of a shape
--   LiesIn p a       = a is neither before the first day of p nor, where there is a last day, after that
--   Begins p d       = d is the first day of p
-- Source: document 01, 'The span of anchors'.
use Rattle.std.specs.Prelude.{ℕ, ◌≤◌, Bool, cond, ◌≡◌, leb, Option, None, Some}
use Rattle.zaehlung.specs.Walk.{on_step, day_after, add, sub, W}
use Rattle.datum.specs.Monate.{M}
use Rattle.vorlauf.specs.declared.VorlaufShape.{VorlaufShape}
use Rattle.vorlauf.specs.declared.VorlaufShape.TheVariants.{LatestWerktageBefore, WindowWerktageBefore}
use Rattle.vorlauf.specs.declared.VorlaufShape.TheVariants.{LatestWerktageAfter, EarliestWerktageAfter, Korridor}
use Rattle.vorlauf.specs.declared.VorlaufShape.TheVariants.{TagVorDemLetztenWerktagVor, LatestMonateBefore}
use Rattle.vorlauf.specs.declared.VorlaufShape.TheVariants.{LatestMonateUndWerktageBefore}
use Rattle.vorlauf.specs.declared.Span.{Span}
use Rattle.vorlauf.specs.declared.Span.TheVariants.{From, Both, Empty}

abbrev pub span_from : Option ℕ → Option Span
span_from s = on_step None s (λ f. Some (From f))

abbrev pub span_between : Option ℕ → Option ℕ → Option Span
span_between s u = on_step None s (λ f. on_step None u (λ l. cond (leb f l) (Some (Both f l)) (Some Empty)))

unfoldable pub span_of : (ℕ → Bool) → VorlaufShape → ℕ → Option Span
-- 'from W(n)'
span_of w (LatestWerktageBefore n) t = span_from (W w t n)
-- 'W(latest) to `add_werktage`(t, earliest); empty if the first is later'
span_of w (WindowWerktageBefore earliest latest) t = span_between (W w t latest) (add w t earliest)
-- 'from `sub_werktage`(t, n)'
span_of w (LatestWerktageAfter n) t = span_from (sub w t n)
-- 'from `add_werktage`(t, n)'
span_of w (EarliestWerktageAfter n) t = span_from (add w t n)
-- '`sub_werktage`(t, n) to `add_werktage`(t, n)'
span_of w (Korridor n) t = span_between (sub w t n) (add w t n)
-- 'from the day after the first Werktag after t'
span_of w TagVorDemLetztenWerktagVor t = span_from (on_step None (add w t 1) day_after)
-- 'from M(n, t)'
span_of w (LatestMonateBefore n) t = span_from (M n t)
-- 'from M(monate, W(werktage))'
span_of w (LatestMonateUndWerktageBefore monate werktage) t = span_from (on_step None (W w t werktage) (M monate))

-- 'An anchor lies in the span if it is neither before the first day nor, where there is a last day, after that. In an
-- empty span no anchor lies'
abbrev pub LiesIn : Option Span → ℕ → Type 0
LiesIn (Some (From f)) a = f ≤ a
LiesIn (Some (Both f l)) a = (f ≤ a) × (a ≤ l)
LiesIn (Some Empty) a = ⊥
LiesIn None a = ⊥

-- 'it has no first day, so no date equals it'
abbrev pub Begins : Option Span → ℕ → Type 0
Begins (Some (From f)) d = f ≡ d
Begins (Some (Both f l)) d = f ≡ d
Begins (Some Empty) d = ⊥
Begins None d = ⊥
