use Rattle.berlin.proofs.OutsideValues.{switches, clocks, beginnings, days, dates}
use Rattle.berlin.proofs.theorems.outside_values.Goals as goal

pub returns-clause-switches : goal.returns-clause-switches
returns-clause-switches c = switches

pub returns-clause-clocks : goal.returns-clause-clocks
returns-clause-clocks c = clocks

pub returns-clause-beginnings : goal.returns-clause-beginnings
returns-clause-beginnings c = beginnings

pub returns-clause-begun_days : goal.returns-clause-begun_days
returns-clause-begun_days c = days

pub returns-clause-berlin_days : goal.returns-clause-berlin_days
returns-clause-berlin_days c = dates
