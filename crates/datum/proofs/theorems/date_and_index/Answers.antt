use Rattle.datum.proofs.RoundTrip.{has_index, index_then_date, date_then_index, index_inside, no_date_lem}
use Rattle.datum.proofs.theorems.date_and_index.Goals as goal

pub returns-clause-date_back : goal.returns-clause-date_back
returns-clause-date_back c = index_then_date

pub returns-clause-index_back : goal.returns-clause-index_back
returns-clause-index_back c = date_then_index

pub returns-clause-inside : goal.returns-clause-inside
returns-clause-inside c = index_inside

pub returns-clause-valid : goal.returns-clause-valid
returns-clause-valid c = λ d i e. (has_index d i e).0

pub returns-clause-no_index : goal.returns-clause-no_index
returns-clause-no_index c = no_date_lem
