-- The line ends.
use Rattle.vektoren.proofs.Held.{held_line}
use Rattle.vektoren.proofs.replay_next.Goals as goal

pub returns-then-byte-eq10 : goal.returns-then-byte-eq10
returns-then-byte-eq10 g c =
    let read = rw c.in-Some.is at c.in_ok-byte.ensures.byte in
    rw c.from.ensures
    (held_line c.loop-held.invariant _ _ read c.if-byte-eq10.true c.is_equal_line.result c.is_equal_line.ensures)
