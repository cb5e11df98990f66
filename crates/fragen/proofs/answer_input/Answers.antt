-- The input is too long; the part of the place for the answers is as long as the questions.
use Rattle.std.proofs.Common.{rules, arith}
use Rattle.fragen.proofs.Whole.{too_long}
use Rattle.fragen.proofs.answer_input.Goals as goal

pub returns-then-n-eq-INPUT_BYTES : goal.returns-then-n-eq-INPUT_BYTES
returns-then-n-eq-INPUT_BYTES g c =
    too_long _ _ _ c.read_full.new.buf c.in_ok-n.n (omega arith) (search rules) c.in_ok-n.ensures.bytes
