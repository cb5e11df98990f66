use Prim.Native.Nat.{◌+◌, ◌/◌, ◌%◌, ◌≤◌}
use mathlib.Core.Path.{◌≡◌}
use native.Mathlib.Omega.{arith}
use borrow.Author.Tests.{le-leb, lt-leb}
use Rattle.berlin.specs.Berlin.{hours, minutes, read_clock}
use Rattle.antworten_frage.specs.Frage.{clock_of_seconds}
use Rattle.antworten_frage.proofs.Places.{clock_same}
use Rattle.antworten_frage.proofs.theorems.clock_in_seconds.Goals as goal

pub returns-clause-back : goal.returns-clause-back
returns-clause-back c = clock_same

pub returns-clause-parts : goal.returns-clause-parts
unfolding read_clock clock_of_seconds
returns-clause-parts c = λ n h.
    let a : n / 3600 ≤ 23 = omega arith in
    let b : n / 60 % 60 ≤ 59 = omega arith in
    let d : n % 60 ≤ 59 = omega arith in
    let s : hours (n / 3600) + minutes (n / 60 % 60) + n % 60 ≡ n = omega arith in
    rw (le-leb n 86399 h, le-leb (n / 3600) 23 a, le-leb (n / 60 % 60) 59 b, le-leb (n % 60) 59 d, s)

pub returns-clause-none : goal.returns-clause-none
unfolding clock_of_seconds
returns-clause-none c = λ n h. rw (lt-leb n 86399 h)
