use Rattle.spannen.proofs.SpansShapes.{shape_spans}
use Rattle.spannen.proofs.SpansFirst.{first_accepted, accepted_least, empty_rejects}
use Rattle.spannen.proofs.span_is_exact.Goals as goal

pub returns-clause-exact : goal.returns-clause-exact
returns-clause-exact c = λ w t a s ht ha. shape_spans w t ht a ha s

pub returns-clause-first_day_acceptable : goal.returns-clause-first_day_acceptable
returns-clause-first_day_acceptable c = λ w t f s ht. first_accepted w t ht s f

pub returns-clause-first_day_least : goal.returns-clause-first_day_least
returns-clause-first_day_least c = λ w t f a s ht ha b. accepted_least w t ht s f a ha b

pub returns-clause-empty_span : goal.returns-clause-empty_span
returns-clause-empty_span c = λ w t a s ht ha. empty_rejects w t ht s a ha
