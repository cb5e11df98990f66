-- A read puts its bytes behind those that stood at the buffer's start, and takes as many from the input.
use Rattle.std.proofs.Common.{sym, subst, rules}
use Rattle.std.specs.Io.KnownBytes.{Consumes}
use Rattle.std.proofs.KnownBytes.{Consumes-trans}
use Rattle.eingabe.proofs.Filled.{take_more-put_mid}
use Rattle.eingabe.proofs.read_full.Goals as goal

pub loop-done-preserved : goal.loop-done-preserved
loop-done-preserved g c =
    let before = c.loop-done.invariant in
    let read = c.in_ok-n.ensures in
    let buf = c.loop-done.buf in
    let joined = take_more-put_mid c.loop-done.done _ c.in_ok-n.n buf c.read.new.buf before.1 read.bound.0 in
    (search rules, search rules, subst (Consumes _ _) (sym joined) (Consumes-trans _ _ _ _ _ before.2 read.bytes.0))
