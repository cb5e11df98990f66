-- A file was read whole, behind its head.
use Rattle.std.proofs.Common.{rules, arith}
use Rattle.vektoren_fragen.proofs.Read.{next_read}
use Rattle.vektoren_fragen.proofs.replay_next.Goals as goal

pub returns : goal.returns
returns g c =
    next_read (g.R.Read.remaining c.args.input.now) (g.R.Read.remaining c.read_full.new.input) c.read_full.new.buf
    c.in_ok-n.n c.read_full.auto.buf (omega arith) c.in_ok-n.ensures.bytes _ c.u32_at-asked.result c.u32_at-lent.result
    c.args.questions.now c.args.expected.now c.replay_file.new.questions c.replay_file.new.expected c.in_ok-case.case
    c.u32_at-asked.ensures c.u32_at-lent.ensures (search rules) (search rules) c.replay_file.auto.questions
    c.replay_file.auto.expected c.in_ok-case.ensures
