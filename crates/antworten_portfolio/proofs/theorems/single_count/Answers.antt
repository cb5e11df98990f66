use Rattle.antworten_portfolio.proofs.SingleCalls.{pair_call, place_call, pair_within}
use Rattle.antworten_portfolio.proofs.theorems.single_count.Goals as goal

pub returns-clause-pair : goal.returns-clause-pair
returns-clause-pair c = pair_call

pub returns-clause-place : goal.returns-clause-place
returns-clause-place c = λ w d e i j xs ys zs l k f g. place_call w d e i j f g xs ys zs l k

pub returns-clause-within : goal.returns-clause-within
returns-clause-within c = pair_within
