-- What was read of the line since the call began.
use Rattle.vektoren.specs.Input.{still_to_come}
use Rattle.vektoren.proofs.Held.{IsHeld}
use Rattle.vektoren.proofs.replay_next.Given as goal

abbrev pub invariant-loop-held : goal.invariant-loop-held
invariant-loop-held g l =
    let known = g.R.Read.remaining in
    let old = l.fn.bytes in
    let now = l.bytes in
    IsHeld (still_to_come (known old.input) old.block old.at old.end)
    (still_to_come (known now.input) now.block now.at now.end) l.line l.held
