-- The calls that were made lead to where the next begins, and the counts are theirs.
use Rattle.std.proofs.Common.{◌≤◌}
use Rattle.wiedergabe.proofs.Leads.{Leads}
use Rattle.wiedergabe.proofs.replay_all.Given as goal

abbrev pub invariant-loop-total : goal.invariant-loop-total
invariant-loop-total g l = goal.F-IsAlwaysCallable g l.next
    × (l.equal ≤ l.total)
    × Leads (goal.F-step g) l.fn.next l.total l.equal l.next
