-- `antworten_vorlauf::month_span_answer` meets its contract: M(n, date) on the date's parts is that on its day.
-- Assumes nothing.
use Rattle.antworten_vorlauf.proofs.Rules.{no_month_date, month_first, month_gone}
use Rattle.antworten_vorlauf.proofs.month_span_answer.Goals as goal

pub returns-then-not-is_date : goal.returns-then-not-is_date
returns-then-not-is_date c = no_month_date c.args.date c.args.n _ c.is_date.ensures c.if-not-is_date.true

pub returns-in-Some : goal.returns-in-Some
returns-in-Some c =
    month_first c.args.date c.args.n _ c.is_date.ensures c.if-not-is_date.false _ c.months_or_first_date.ensures.0 _ _
    c.months_or_first_date.ensures.1 c.in-Some.is c.spanned.ensures

pub returns-in-None : goal.returns-in-None
returns-in-None c =
    month_gone c.args.date c.args.n _ c.is_date.ensures c.if-not-is_date.false _ c.months_or_first_date.ensures.0
    c.in-None.is
