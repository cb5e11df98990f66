-- One byte more is read.
use Rattle.std.proofs.Common.{rules}
use Rattle.vektoren.proofs.Rules.{hex_rules}
use Rattle.vektoren.proofs.read_hex.Goals as goal

pub loop-i-preserved : goal.loop-i-preserved
loop-i-preserved g c = search (rules, hex_rules)
