-- No call has a number from 32 on.
use Rattle.std.proofs.Common.{◌≡◌, ◌≤◌, None, ap}
use Rattle.std.proofs.lemmas.Option.{slice_get_past}
use Rattle.std.specs.Option.{option_and_then}
use Rattle.vektoren.specs.declared.Question.{Question}
use Rattle.vektoren.specs.Asked.{call_answers, stored_answer}

pub no_call : (q : Question) → 32 ≤ q.call → stored_answer q ≡ None
unfolding stored_answer
no_call q h = ap (option_and_then (λ a. a)) (slice_get_past (call_answers q) q.call h)
