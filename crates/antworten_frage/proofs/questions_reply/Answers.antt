-- `antworten_frage::questions_reply`: the answers that the check does not find by itself.
-- Assumes nothing.
use mathlib.Core.Path.{◌∙◌}
use native.Mathlib.Omega.{arith}
use Prim.Native.Nat.{◌*◌}
use Rattle.werktag.specs.Werktag.{is_werktag}
use Rattle.antworten_frage.proofs.Rules.{none_answered, one_more, no_file, file_lengths, file_answered}
use Rattle.antworten_frage.proofs.questions_reply.Goals as goal

pub returns-then-not-is_file : goal.returns-then-not-is_file
returns-then-not-is_file c =
    rw c.number.ensures
    (no_file (is_werktag c.args.cal) c.args.questions.now c.args.answers.now _ c.is_file.ensures c.if-not-is_file.true)

pub loop-k-init : goal.loop-k-init
loop-k-init c =
    let w = is_werktag c.args.cal in
    let f = file_lengths w c.args.questions.now c.args.answers.now _ c.is_file.ensures c.if-not-is_file.false in
    (none_answered w c.args.questions.now c.args.answers.now, f.same, f.multiple, omega arith)

pub loop-k-preserved : goal.loop-k-preserved
loop-k-preserved c =
    let i = c.loop-k.invariant in (
      one_more (is_werktag c.args.cal) c.args.questions.now c.loop-k.answers (c.loop-k.k * 32) _ _ _ _
          (c.loop-k.auto.answers ∙ i.1) i.2 (omega arith) (omega arith)
          c.question_of-question.ensures c.question_answer-answer.ensures c.reply.ensures _ (omega arith) i.0,
      i.1,
      i.2,
      omega arith,
    )

pub returns : goal.returns
returns c =
    file_answered (is_werktag c.args.cal) c.args.questions.now c.args.answers.now _ c.is_file.ensures _
    (c.loop-k.k * 32)
    c.if-not-is_file.false c.loop-k.invariant.0 c.loop-k.auto.answers (omega arith)
