-- `gang::at_werktag`: the answer that the check does not find by itself.
-- Assumes nothing.
use mathlib.Core.Path.{◌∙◌}
use borrow.Author.Tests.{lt-leb}
use Rattle.gang.proofs.Rules.{weekend_closed}
use Rattle.gang.proofs.at_werktag.Goals as goal

pub returns-else-day-le-FRIDAY : goal.returns-else-day-le-FRIDAY
returns-else-day-le-FRIDAY c = lt-leb _ _ c.if-day-le-FRIDAY.false ∙ rw (← c.stand.view_is) (rw (← c.day.view_is)
    (weekend_closed c.args.cal _ _ c.day.invariant.0 c.if-day-le-FRIDAY.false))
