use mathlib.Core.Path.{refl, ap}
use Rattle.std.specs.Prelude.{Option}
use Rattle.berlin.specs.declared.Clock.{Clock}
use Rattle.berlin.specs.Berlin.{read_instant}
use Rattle.antworten_frist.specs.Frist.{frist_due_at_answer}
use Rattle.antworten_frage.specs.Frage.{question_answer}
use Rattle.antworten_frage.proofs.Places.{record_gets, clock_same}
use Rattle.antworten_frage.proofs.theorems.answered_as_call.Goals as goal

pub returns-clause-contrl : goal.returns-clause-contrl
unfolding question_answer
returns-clause-contrl c = λ o n k d e z x w l m i f p. record_gets w l m i _ _ f refl p.file p.inside p.bytes

pub returns-clause-frist : goal.returns-clause-frist
unfolding question_answer
returns-clause-frist c = λ s n h o u d e z x w l m i f p.
    record_gets w l m i _ _ f
    (ap (λ (t : Option Clock). frist_due_at_answer w s n t (read_instant z x)) (clock_same h o u))
    p.file p.inside p.bytes

pub returns-clause-end_of_werktag : goal.returns-clause-end_of_werktag
unfolding question_answer frist_due_at_answer
returns-clause-end_of_werktag c = λ n k t d e z x w l m i f p. record_gets w l m i _ _ f refl p.file p.inside p.bytes

pub returns-clause-same_day : goal.returns-clause-same_day
unfolding question_answer frist_due_at_answer
returns-clause-same_day c = λ n k o t d e z x w l m i f p. record_gets w l m i _ _ f refl p.file p.inside p.bytes

pub returns-clause-check : goal.returns-clause-check
unfolding question_answer
returns-clause-check c = λ s n k d e z x w l m i f p. record_gets w l m i _ _ f refl p.file p.inside p.bytes

pub returns-clause-span : goal.returns-clause-span
unfolding question_answer
returns-clause-span c = λ s n k d e z x w l m i f p. record_gets w l m i _ _ f refl p.file p.inside p.bytes
