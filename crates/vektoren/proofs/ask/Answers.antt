-- A number that is none of the calls' is from 32 on.
use Rattle.std.proofs.Common.{◌≤◌, arith, refl}
use Rattle.vektoren.proofs.NoCall.{no_call}
use Rattle.vektoren.proofs.ask.Goals as goal

pub returns-in_default : goal.returns-in_default
returns-in_default c =
    let h : 32 ≤ c.args.q.now.call = omega arith in
    rw (no_call c.args.q.now h) refl
