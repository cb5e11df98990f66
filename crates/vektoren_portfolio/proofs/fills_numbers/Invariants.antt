-- The numbers before the present one are read.
use Rattle.vektoren_portfolio.proofs.Read.{IsFilled}
use Rattle.vektoren_portfolio.proofs.fills_numbers.Given as goal

abbrev pub invariant-loop-i : goal.invariant-loop-i
invariant-loop-i g l =
    IsFilled (g.R.Read.remaining l.initial.input) (g.R.Read.remaining l.input) l.list l.i
