-- `datum::is_leap` meets its contract: a lemma for each return.
-- Assumes nothing.
use Rattle.datum.proofs.Rules.{leap_25, leap_other}
use Rattle.datum.proofs.is_leap.Goals as goal

pub returns-then-year-eq0 : goal.returns-then-year-eq0
returns-then-year-eq0 c = leap_25 _ c.if-year-eq0.true

pub returns : goal.returns
returns c = leap_other _ c.if-year-eq0.false
