use Prim.Native.Nat.{ℕ, zero, suc, ◌<◌}
use mathlib.Core.Path.{refl}
use native.Mathlib.Omega.{arith}
use lib.ListN.{replicate}
use Rattle.zahlen.proofs.RoundTrip.{Below, below_all}
use Rattle.zahlen.proofs.RoundTrip.Below.{none, more}
use Rattle.antwortsatz.specs.declared.Refusal.{Refusal}
use Rattle.antwortsatz.specs.declared.Refusal.TheVariants.{AnswerLength, UnknownCode, NoDate, InstantOutside, NoClock}
use Rattle.antwortsatz.specs.declared.Refusal.TheVariants.{LocalTimeAbsent, NoBeginning, LeavesCalendar}
use Rattle.antwortsatz.specs.declared.Refusal.TheVariants.{FileLength, ListLength}
use Rattle.antwortsatz.specs.Refusals.{number}
use Rattle.antwortsatz.specs.Bytes.{bytes_of}
use Rattle.antwortsatz.proofs.Rules.{bytes_length, answer_numbered, numbered_below}
use Rattle.antwortsatz.proofs.theorems.answer_bytes.Goals as goal

null : 0 < 256
null = omega arith

zeros : (n : ℕ) → Below (replicate n 0)
zeros zero = none
zeros (suc n) = more null (zeros n)

number_lt : (r : Refusal) → number r < 256
number_lt AnswerLength = omega arith
number_lt UnknownCode = omega arith
number_lt NoDate = omega arith
number_lt InstantOutside = omega arith
number_lt NoClock = omega arith
number_lt LocalTimeAbsent = omega arith
number_lt NoBeginning = omega arith
number_lt LeavesCalendar = omega arith
number_lt FileLength = omega arith
number_lt ListLength = omega arith

pub returns-clause-length : goal.returns-clause-length
returns-clause-length c = bytes_length

pub returns-clause-answer_fits : goal.returns-clause-answer_fits
returns-clause-answer_fits c = λ a k. below_all (rw (answer_numbered a) (numbered_below 0 a null k))

pub returns-clause-refusal_fits : goal.returns-clause-refusal_fits
unfolding bytes_of
returns-clause-refusal_fits c = λ r. below_all (more (number_lt r) (zeros 31))

pub returns-clause-answer_begins : goal.returns-clause-answer_begins
unfolding bytes_of
returns-clause-answer_begins c = λ a. refl

pub returns-clause-refusal_begins : goal.returns-clause-refusal_begins
unfolding bytes_of
returns-clause-refusal_begins c = λ r. refl

pub returns-clause-refusal_alone : goal.returns-clause-refusal_alone
unfolding bytes_of
returns-clause-refusal_alone c = λ r. refl
