-- The span of anchors says exactly which anchors a verdict accepts: for any test of a day, so under every list of
-- holidays, any transmission day and anchor of the calendar, and each of the eight shapes with whatever counts. An
-- anchor's verdict is what the `check` of the shape gives, `check_of`; it is acceptable if that is Ok, and one whose
-- verdict is refused is not. A span stays inside the calendar if none of its ends leaves it.
--   SpanIsExact            where the span stays inside the calendar, an anchor whose verdict isn't refused is
--                          acceptable exactly if it lies in the span
--   FirstDayIsAcceptable   the first day of a span is acceptable, if its verdict isn't refused
--   FirstDayIsLeast        no anchor before the first day of a span is acceptable
--   EmptySpanAcceptsNone   where the span is empty, no anchor is acceptable
use Rattle.std.specs.Prelude.{ℕ, ◌≤◌, ◌≡◌, ◌≢◌, ◌↔◌, Bool, Some, None}
use Rattle.zaehlung.specs.Walk.{last}
use Rattle.vorlauf.specs.declared.VorlaufShape.{VorlaufShape}
use Rattle.vorlauf.specs.declared.VorlaufVerdict.TheVariants.{Ok}
use Rattle.vorlauf.specs.declared.Span.TheVariants.{Empty}
use Rattle.vorlauf.specs.Verdict.{check_of}
use Rattle.vorlauf.specs.Span.{span_of, LiesIn, Begins}

abbrev pub SpanIsExact : Type 0
SpanIsExact =
    (is_open : ℕ → Bool) (day anchor : ℕ) (shape : VorlaufShape) → day ≤ last → anchor ≤ last →
    span_of is_open shape day ≢ None → check_of is_open shape day anchor ≢ None →
    (check_of is_open shape day anchor ≡ Some Ok) ↔ LiesIn (span_of is_open shape day) anchor

abbrev pub FirstDayIsAcceptable : Type 0
FirstDayIsAcceptable =
    (is_open : ℕ → Bool) (day first : ℕ) (shape : VorlaufShape) → day ≤ last →
    Begins (span_of is_open shape day) first → check_of is_open shape day first ≢ None →
    check_of is_open shape day first ≡ Some Ok

abbrev pub FirstDayIsLeast : Type 0
FirstDayIsLeast =
    (is_open : ℕ → Bool) (day first anchor : ℕ) (shape : VorlaufShape) → day ≤ last → anchor ≤ last →
    Begins (span_of is_open shape day) first → check_of is_open shape day anchor ≡ Some Ok → first ≤ anchor

abbrev pub EmptySpanAcceptsNone : Type 0
EmptySpanAcceptsNone =
    (is_open : ℕ → Bool) (day anchor : ℕ) (shape : VorlaufShape) → day ≤ last → anchor ≤ last →
    span_of is_open shape day ≡ Some Empty → check_of is_open shape day anchor ≢ Some Ok
