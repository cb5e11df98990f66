use mathlib.Core.Path.{refl}
use Rattle.zahlen.specs.TwosComplement.{bits_in}
use Rattle.zahlen.proofs.RoundTrip.{below_all}
use Rattle.antwortsatz.specs.Bytes.{reply, numbered_bytes, numbered_reply}
use Rattle.antwortsatz.proofs.Rules.{answer_numbered, refusal_numbered, numbered_below}
use Rattle.antwortsatz.proofs.theorems.numbered_answers.Goals as goal

pub returns-clause-length : goal.returns-clause-length
unfolding numbered_bytes
returns-clause-length c = λ x a. refl

pub returns-clause-fits : goal.returns-clause-fits
returns-clause-fits c = λ x a n k. below_all (numbered_below x a n k)

pub returns-clause-alone : goal.returns-clause-alone
unfolding numbered_bytes bits_in
returns-clause-alone c = λ x. refl

pub returns-clause-answer : goal.returns-clause-answer
returns-clause-answer c = answer_numbered

pub returns-clause-refusal : goal.returns-clause-refusal
returns-clause-refusal c = refusal_numbered

pub returns-clause-answer_reply : goal.returns-clause-answer_reply
unfolding reply numbered_reply
returns-clause-answer_reply c = λ l a. rw (answer_numbered a)

pub returns-clause-refusal_reply : goal.returns-clause-refusal_reply
unfolding reply numbered_reply
returns-clause-refusal_reply c = λ l r. rw (refusal_numbered r)
