use Rattle.antworten_frage.proofs.Places.{answers_length, answer_at}
use Rattle.antworten_frage.proofs.theorems.answers_in_order.Goals as goal

pub returns-clause-length : goal.returns-clause-length
returns-clause-length c = answers_length

pub returns-clause-place : goal.returns-clause-place
returns-clause-place c = λ w l m i f. answer_at w l m f i
