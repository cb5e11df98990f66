-- The bytes before the present one are read.
use Rattle.vektoren.proofs.Rules.{IsRead}
use Rattle.vektoren.proofs.read_hex.Given as goal

abbrev pub invariant-loop-i : goal.invariant-loop-i
invariant-loop-i g l = IsRead l.line l.from g.row.N l.i l.byte-items
