-- `gang::werktage_between`: the answers that the check does not find by itself.
-- Assumes nothing.
use Prim.Native.Nat.{◌-◌, ◌≤◌}
use mathlib.Core.Path.{ap, ◌∙◌}
use native.Mathlib.Omega.{arith}
use Rattle.datum.specs.Calendar.{weekday}
use Rattle.werktag.specs.Werktag.{is_werktag}
use Rattle.gang.proofs.Rules.{vor_weekday, count_done, count_open, count_shut, count_end}
use Rattle.gang.proofs.werktage_between.Goals as goal

pub returns-then-to-index : goal.returns-then-to-index
returns-then-to-index c =
    let w = c.day.invariant.0 ∙ ap weekday (c.day.view_is ∙ c.at.view_is) in
    let k = c.to_weekday-days.ensures in
    let v = c.loop-cal.invariant in
    let i = c.index-in-loop-cal.ensures.0 in
    count_done c.args.cal c.loop-cal.at 0 _ _ w k.1 k.0 _ _ c.args.to v.0 v.1 (omega (arith, i, c.if-to-index.true))

pub is_open_weekday-requires : goal.is_open_weekday-requires
is_open_weekday-requires c =
    let w = c.day.invariant.0 ∙ ap weekday (c.day.view_is ∙ c.at.view_is) in
    let k = c.to_weekday-days.ensures in
    let v = c.loop-cal.invariant in
    let i = c.index-in-loop-cal.ensures.0 in
    let e = c.at-in-loop-cal.view_is in
    omega (arith, vor_weekday c.loop-cal.at c.on-at.result _ _ w k.0 c.on-at.ensures, ap weekday e)

pub loop-cal-preserved-then-is_open_weekday : goal.loop-cal-preserved-then-is_open_weekday
loop-cal-preserved-then-is_open_weekday c =
    let w = c.day.invariant.0 ∙ ap weekday (c.day.view_is ∙ c.at.view_is) in
    let k = c.to_weekday-days.ensures in
    let v = c.loop-cal.invariant in
    let i = c.index-in-loop-cal.ensures.0 in
    let h : c.to_weekday-days.result ≤ c.args.to - c.loop-cal.at = omega (arith, i, c.if-to-index.false) in
    let e = c.at-in-loop-cal.view_is in
    let r = c.is_open_weekday.ensures ∙ ap (is_werktag c.args.cal) e in
    let q = c.on-at.ensures in (
      count_open c.args.cal c.loop-cal.at c.on-at.result _ _ w k.1 k.0 _ _ c.args.to v.0 v.1 h q _ r
          c.if-is_open_weekday.true,
      omega (arith, q, h, v.1),
      omega (arith, q, v.2, k.1),
    )

pub loop-cal-preserved : goal.loop-cal-preserved
loop-cal-preserved c =
    let w = c.day.invariant.0 ∙ ap weekday (c.day.view_is ∙ c.at.view_is) in
    let k = c.to_weekday-days.ensures in
    let v = c.loop-cal.invariant in
    let i = c.index-in-loop-cal.ensures.0 in
    let h : c.to_weekday-days.result ≤ c.args.to - c.loop-cal.at = omega (arith, i, c.if-to-index.false) in
    let e = c.at-in-loop-cal.view_is in
    let r = c.is_open_weekday.ensures ∙ ap (is_werktag c.args.cal) e in
    let q = c.on-at.ensures in (
      count_shut c.args.cal c.loop-cal.at c.on-at.result _ _ w k.1 k.0 _ _ c.args.to v.0 v.1 h q _ r
          c.if-is_open_weekday.false,
      omega (arith, q, h, v.1),
      omega (arith, q, v.2, k.1),
    )

pub returns : goal.returns
returns c = count_end _ _ _ _ _ c.loop-cal.invariant.0 (omega (arith, c.index.ensures.0, c.loop-cal-test.false))
