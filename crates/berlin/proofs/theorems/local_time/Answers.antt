use Rattle.berlin.proofs.Found.{is_earliest, earliest_is, absent_none, none_absent}
use Rattle.berlin.proofs.Found.{absent_when, when_absent, repeated_when, when_repeated}
use Rattle.berlin.proofs.Zeit.{limits, switch_days}
use Rattle.berlin.proofs.theorems.local_time.Goals as goal

pub returns-clause-limits : goal.returns-clause-limits
returns-clause-limits c = limits

pub returns-clause-found : goal.returns-clause-found
returns-clause-found c = λ i k h u m. (is_earliest i k h u m, earliest_is i k h u m)

pub returns-clause-not_found : goal.returns-clause-not_found
returns-clause-not_found c = λ i k h u. (absent_none i k h u, none_absent i k h u)

pub returns-clause-absent : goal.returns-clause-absent
returns-clause-absent c = λ i k h u. (absent_when i k h u, λ q. when_absent i k h u q.0 q.1 q.2)

pub returns-clause-repeated : goal.returns-clause-repeated
returns-clause-repeated c = λ i k h u. (repeated_when i k h u, λ q. when_repeated i k h u q.0 q.1 q.2)

pub returns-clause-march_switch : goal.returns-clause-march_switch
returns-clause-march_switch c = λ y h. (switch_days y h).0

pub returns-clause-october_switch : goal.returns-clause-october_switch
returns-clause-october_switch c = λ y h. (switch_days y h).1
