use mathlib.Core.Path.{refl}
use Rattle.fragesatz.specs.Record.{question_bytes}
use Rattle.fragesatz.proofs.RoundTrip.{question_back, bytes_back}
use Rattle.fragesatz.proofs.theorems.question_and_bytes.Goals as goal

pub returns-clause-read_back : goal.returns-clause-read_back
returns-clause-read_back c = question_back

pub returns-clause-written_back : goal.returns-clause-written_back
returns-clause-written_back c = bytes_back

pub returns-clause-length : goal.returns-clause-length
unfolding question_bytes
returns-clause-length c = λ q. refl
