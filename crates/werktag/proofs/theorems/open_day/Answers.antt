use Rattle.werktag.proofs.Reasons.{reason_zero, weekend_shut, weekday_open}
use Rattle.werktag.proofs.theorems.open_day.Goals as goal

pub returns-clause-no_reason : goal.returns-clause-no_reason
returns-clause-no_reason c = reason_zero

pub returns-clause-weekend : goal.returns-clause-weekend
returns-clause-weekend c = weekend_shut

pub returns-clause-weekday : goal.returns-clause-weekday
returns-clause-weekday c = weekday_open
