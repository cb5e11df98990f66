-- `schritte::nth_werktag_after`: the answers that the check does not find by itself.
-- Assumes nothing.
use native.Mathlib.Omega.{arith}
use Rattle.schritte.proofs.Rules.{after_none, after_edge_day, after_weekday}
use Rattle.schritte.proofs.nth_werktag_after.Goals as goal

pub returns-then-n-eq0 : goal.returns-then-n-eq0
returns-then-n-eq0 c = after_none c.args.cal c.args.day c.args.n c.if-n-eq0.true

pub returns-then-day-days : goal.returns-then-day-days
returns-then-day-days c =
    let k = c.to_weekday-days.ensures in
    after_edge_day c.args.cal c.args.day c.args.n _ _ c.weekday.ensures k.0 k.1 (omega (
      arith,
      c.if-n-eq0.false,
    )) c.requires
    c.if-day-days.true

pub returns : goal.returns
returns c =
    let k = c.to_weekday-days.ensures in
    after_weekday c.args.cal c.args.day c.args.n _ _ c.weekday.ensures k.0 k.1 (omega (
      arith,
      c.if-n-eq0.false,
    )) c.requires _ _
    c.if-day-days.false c.tag_at-2.ensures c.nth_on_or_after.ensures
