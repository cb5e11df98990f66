-- `gang::Zurueck::next_weekday`: the answers that the check does not find by itself.
-- Assumes nothing.
use Prim.Native.Nat.{◌≤◌}
use mathlib.Core.Path.{ap}
use native.Mathlib.Omega.{arith}
use Rattle.datum.specs.Calendar.{weekday}
use Rattle.gang.proofs.Rules.{zurueck_weekday, zurueck_edge, zurueck_turn}
use Rattle.gang.proofs.ZurueckRichtung.next_weekday.Goals as goal

pub returns-then-index-days-clause-turn : goal.returns-then-index-days-clause-turn
returns-then-index-days-clause-turn c =
    let w = ap weekday c.stand.view_is in
    zurueck_edge c.args.stand 0 _ _ w c.from_weekday-days.ensures.0 (omega (
      arith,
      c.index.ensures.0,
      c.if-index-days.true,
    ))

pub returns-clause-found : goal.returns-clause-found
returns-clause-found c =
    let w = ap weekday c.stand.view_is in
    let k = c.from_weekday-days.ensures in
    let h : c.from_weekday-days.result ≤ c.args.stand = omega (arith, c.index.ensures.0, c.if-index-days.false) in
    let r = c.back.ensures in
    (zurueck_weekday c.args.stand c.back.result _ _ w k.0 h r, omega (arith, r, k.1, h))

pub returns-clause-turn : goal.returns-clause-turn
returns-clause-turn c =
    let w = ap weekday c.stand.view_is in
    let k = c.from_weekday-days.ensures in
    zurueck_turn c.args.stand c.back.result _ _ w k.0 k.1 (omega (
      arith,
      c.index.ensures.0,
      c.if-index-days.false,
    )) c.back.ensures
