use Rattle.berlin.proofs.Order.{day_less, day_more, second_less, second_more, second_same}
use Rattle.berlin.proofs.theorems.parts_decide.Goals as goal

pub returns-clause-earlier_day : goal.returns-clause-earlier_day
returns-clause-earlier_day c = day_less

pub returns-clause-later_day : goal.returns-clause-later_day
returns-clause-later_day c = day_more

pub returns-clause-earlier_second : goal.returns-clause-earlier_second
returns-clause-earlier_second c = second_less

pub returns-clause-later_second : goal.returns-clause-later_second
returns-clause-later_second c = second_more

pub returns-clause-same_second : goal.returns-clause-same_second
returns-clause-same_second c = second_same
