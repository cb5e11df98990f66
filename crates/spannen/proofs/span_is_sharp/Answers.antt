use Rattle.spannen.proofs.Sharp.{refused_span, refused_verdict, empty_span, empty_verdicts, empty_anchors}
use Rattle.spannen.proofs.Sharp.{leaving_verdict, leaving_span, leaving_begins}
use Rattle.spannen.proofs.span_is_sharp.Goals as goal

pub returns-clause-refused_anchor_span : goal.returns-clause-refused_anchor_span
returns-clause-refused_anchor_span c = refused_span

pub returns-clause-refused_anchor_verdict : goal.returns-clause-refused_anchor_verdict
returns-clause-refused_anchor_verdict c = refused_verdict

pub returns-clause-refused_span : goal.returns-clause-refused_span
returns-clause-refused_span c = empty_span

pub returns-clause-refused_span_verdicts : goal.returns-clause-refused_span_verdicts
returns-clause-refused_span_verdicts c = empty_verdicts

pub returns-clause-refused_span_accepts_none : goal.returns-clause-refused_span_accepts_none
returns-clause-refused_span_accepts_none c = empty_anchors

pub returns-clause-leaving_span_verdict : goal.returns-clause-leaving_span_verdict
returns-clause-leaving_span_verdict c = leaving_verdict

pub returns-clause-leaving_span : goal.returns-clause-leaving_span
returns-clause-leaving_span c = leaving_span

pub returns-clause-leaving_span_begins_never : goal.returns-clause-leaving_span_begins_never
returns-clause-leaving_span_begins_never c = leaving_begins
