-- `schritte::nth_on_or_after`: the answer that the check does not find by itself.
-- Assumes nothing.
use mathlib.Core.Path.{ap, ◌∙◌}
use Rattle.werktag.specs.Werktag.{is_werktag}
use Rattle.std.specs.Prelude.{Some}
use Rattle.schritte.proofs.Rules.{on_today}
use Rattle.schritte.proofs.nth_on_or_after.Goals as goal

pub returns-then-left-eq0 : goal.returns-then-left-eq0
returns-then-left-eq0 c =
    ap Some c.day.view_is ∙ on_today
    (is_werktag c.args.cal) c.args.day c.args.n _ c.after_today-left.ensures c.if-left-eq0.true
