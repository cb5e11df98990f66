-- A number more is read.
use Rattle.std.proofs.Common.{rules, arith}
use Rattle.vektoren_portfolio.proofs.Read.{filled_more, when_full}
use Rattle.vektoren_portfolio.proofs.fills_numbers.Goals as goal

pub loop-i-preserved : goal.loop-i-preserved
loop-i-preserved g c =
    filled_more c.loop-i.invariant _ c.fills.new.buf c.number_of.result (omega arith)
    (when_full _ _ c.in_ok-fills.field-0 (search rules) c.in_ok-fills.ensures) c.number_of.ensures
