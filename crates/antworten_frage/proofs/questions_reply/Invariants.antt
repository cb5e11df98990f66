-- The loop's invariant: the answers so far, and those to the questions that are left, are those of the whole file.
-- Assumes nothing.
use Prim.Native.Nat.{◌*◌, ◌/◌, ◌%◌, ◌≤◌}
use mathlib.Core.Path.{◌≡◌}
use lib.ListN.{length}
use Rattle.werktag.specs.Werktag.{is_werktag}
use Rattle.antworten_frage.proofs.Rules.{Answered}
use Rattle.antworten_frage.proofs.questions_reply.Given as goal

abbrev pub invariant-loop-k : goal.invariant-loop-k
invariant-loop-k l = Answered (is_werktag l.cal) l.questions l.answers (l.k * 32)
    × (length l.initial.answers ≡ length l.questions)
    × (length l.questions % 32 ≡ 0)
    × (l.k ≤ length l.questions / 32)
