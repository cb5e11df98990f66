use Rattle.werktag.proofs.Reasons.{on_saturday, on_sunday, on_holiday, rule_fixed, rule_bettag, rule_feast}
use Rattle.werktag.proofs.Reasons.{never_pfingstsonntag, reason_most}
use Rattle.werktag.proofs.theorems.closed_day.Goals as goal

pub returns-clause-saturday : goal.returns-clause-saturday
returns-clause-saturday c = on_saturday

pub returns-clause-sunday : goal.returns-clause-sunday
returns-clause-sunday c = on_sunday

pub returns-clause-holiday : goal.returns-clause-holiday
returns-clause-holiday c = on_holiday

pub returns-clause-fixed_day : goal.returns-clause-fixed_day
returns-clause-fixed_day c = rule_fixed

pub returns-clause-buss_und_bettag : goal.returns-clause-buss_und_bettag
returns-clause-buss_und_bettag c = rule_bettag

pub returns-clause-feast : goal.returns-clause-feast
returns-clause-feast c = rule_feast

pub returns-clause-never_pfingstsonntag : goal.returns-clause-never_pfingstsonntag
returns-clause-never_pfingstsonntag c = never_pfingstsonntag

pub returns-clause-most : goal.returns-clause-most
returns-clause-most c = reason_most
