-- A portfolio was read whole, behind its head.
use Rattle.std.proofs.Common.{rules, arith}
use Rattle.vektoren_portfolio.proofs.Read.{next_read}
use Rattle.vektoren_portfolio.proofs.replay_next.Goals as goal

pub returns : goal.returns
returns g c =
    let read = c.replay_portfolio.auto in
    let new = c.replay_portfolio.new in
    next_read (g.R.Read.remaining c.args.input.now) (g.R.Read.remaining c.read_full.new.input) c.read_full.new.buf
    c.in_ok-n.n c.read_full.auto.buf (omega arith) c.in_ok-n.ensures.bytes _ c.u32_at-first.result
    c.u32_at-second.result c.u32_at-third.result c.u32_at-lent.result c.args.from.now c.args.to.now
    c.args.expected_counts.now c.args.expected.now new.from new.to new.expected_counts new.expected c.in_ok-case.case
    c.u32_at-first.ensures c.u32_at-second.ensures c.u32_at-third.ensures c.u32_at-lent.ensures (search rules)
    (search rules) (search rules) (search rules) read.from read.to read.expected_counts read.expected
    c.in_ok-case.ensures
