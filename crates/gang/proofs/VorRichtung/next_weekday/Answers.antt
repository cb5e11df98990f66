-- `gang::Vor::next_weekday`: the answers that the check does not find by itself.
-- Assumes nothing.
use mathlib.Core.Path.{ap, ◌∙◌}
use native.Mathlib.Omega.{arith}
use Rattle.datum.specs.Calendar.{weekday}
use Rattle.gang.proofs.Rules.{vor_weekday, vor_edge, vor_turn}
use Rattle.gang.proofs.VorRichtung.next_weekday.Goals as goal

pub returns-then-index-ahead-clause-turn : goal.returns-then-index-ahead-clause-turn
returns-then-index-ahead-clause-turn c =
    let w = c.day.invariant.0 ∙ ap weekday (c.day.view_is ∙ c.stand.view_is) in
    let k = c.to_weekday-days.ensures in
    let i = c.index.ensures in
    vor_edge c.args.stand 0 _ _ w k.0 (omega (arith, i.0, i.1)) (omega (arith, i.0, c.if-index-ahead.true))

pub returns-clause-found : goal.returns-clause-found
returns-clause-found c =
    let w = c.day.invariant.0 ∙ ap weekday (c.day.view_is ∙ c.stand.view_is) in
    let k = c.to_weekday-days.ensures in
    let i = c.index.ensures in
    let r = c.on.ensures in
    let t = c.if-index-ahead.false in
    (vor_weekday c.args.stand c.on.result _ _ w k.0 r, omega (arith, i.0, i.1, r, k.1, t))

pub returns-clause-turn : goal.returns-clause-turn
returns-clause-turn c =
    let w = c.day.invariant.0 ∙ ap weekday (c.day.view_is ∙ c.stand.view_is) in
    let k = c.to_weekday-days.ensures in
    let i = c.index.ensures in
    let t = c.if-index-ahead.false in
    vor_turn c.args.stand c.on.result _ _ w k.0 k.1 (omega (arith, i.0, i.1, t)) c.on.ensures
