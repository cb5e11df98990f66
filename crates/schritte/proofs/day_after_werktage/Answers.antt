-- `schritte::day_after_werktage`: the answers that the check does not find by itself.
-- Assumes nothing.
use mathlib.Core.Path.{◌∙◌}
use native.Mathlib.Omega.{arith}
use Rattle.werktag.specs.Werktag.{is_werktag}
use Prim.Native.Nat.{◌≤◌}
use Rattle.zaehlung.specs.Walk.{last}
use Rattle.schritte.proofs.Rules.{w_here, w_gone, w_is}
use Rattle.schritte.proofs.day_after_werktage.Goals as goal

pub returns-then-n-eq0 : goal.returns-then-n-eq0
returns-then-n-eq0 c = w_here (is_werktag c.args.cal) c.args.t c.args.n c.if-n-eq0.true

pub returns-in_err-werktag : goal.returns-in_err-werktag
returns-in_err-werktag c =
    let h : c.args.t ≤ last = omega (arith, c.t.invariant.1, c.t.view_is) in
    c.from_residual.ensures ∙ w_gone (is_werktag c.args.cal) c.args.t h c.args.n _ (omega (
      arith,
      c.if-n-eq0.false,
    )) c.after_today.ensures _
    c.add_werktage.ensures c.in_err-werktag.was

pub returns : goal.returns
returns c =
    let h : c.args.t ≤ last = omega (arith, c.t.invariant.1, c.t.view_is) in
    w_is (is_werktag c.args.cal) c.args.t h c.args.n _ (omega (
      arith,
      c.if-n-eq0.false,
    )) c.after_today.ensures _ _ _ c.add_werktage.ensures
    c.in_ok-werktag.was c.day_after.ensures
