-- `schritte::tested::test_days`: the answer that the check does not find by itself.
-- Assumes nothing.
use mathlib.Core.Path.{ap, ◌∙◌}
use native.Mathlib.Omega.{arith}
use mir.Val.{bool_byte}
use Rattle.werktag.specs.Werktag.{is_werktag}
use Rattle.schritte.proofs.TestedRules.{bool_bit, one_most, tested_more}
use Rattle.schritte.proofs.tested.test_days.Goals as goal

pub loop-preserved : goal.loop-preserved
loop-preserved c =
    let v = c.loop.invariant in
    let s = c.on-at.ensures in
    let r = c.from-werktage-in-loop.ensures ∙ ap bool_byte c.at_werktag-in-loop.ensures ∙ bool_bit _ in (
      tested_more (is_werktag c.args.cal) c.args.first _ _ c.loop.at _ _ v.0 v.2 s r,
      omega (arith, s, v.1),
      omega (arith, s, v.2),
      omega (arith, v.3, one_most _ _ r),
      omega (arith, c.loop-test.true),
    )
