-- The call returns 0 and all answers are written, or it does not and nothing is.
use Rattle.fragen.proofs.Whole.{all_written, none_written}
use Rattle.fragen.proofs.answered.Goals as goal

pub returns-then-mf_questions-eq0 : goal.returns-then-mf_questions-eq0
returns-then-mf_questions-eq0 c =
    all_written c.args.questions.now c.args.answers.now (c.mf_questions.result, c.mf_questions.new.answers) c.requires
    c.mf_questions.ensures c.if-mf_questions-eq0.true

pub returns-else-mf_questions-eq0 : goal.returns-else-mf_questions-eq0
returns-else-mf_questions-eq0 c =
    none_written c.args.questions.now c.args.answers.now (c.mf_questions.result, c.mf_questions.new.answers) c.requires
    c.mf_questions.ensures c.if-mf_questions-eq0.false
