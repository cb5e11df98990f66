-- What a question of a file answers: the single call's definition on the question's fields. w is the test of a day: a
-- Werktag by some list.
--   clock_of_seconds n        = the time of day n seconds after 00:00 on the clock, or NoClock
--   clock_seconds h m s       = the count that a record has for the clock of a call: its seconds after 00:00, and one
--                               that is no clock for numbers that are none
--   contrl_question_answer q  = the question as a CONTRL: the occasion is its code
--   frist_question_answer w q = as a due shape: its second count is the clock
--   check_question_answer w q = as a verdict
--   span_question_answer w q  = as a span
--   operations w q            = the question as each of the four, in the order of their codes
--   question_answer w q       = the answer of the question, by its operation, or refusal 2
-- Source: document 02, F-1: 'Byte 0 is the operation (0 CONTRL, 1 due shape, 2 verdict, 3 span)'; 'For a due shape the
-- second count is the clock in whole seconds'; 'An answer equals the single call's. Checks: 2 also if byte 2 or 3 is
-- not zero; 5 also for a clock over 86,399'.
-- Assumes nothing.
use Rattle.std.specs.Prelude.{ℕ, ◌+◌, Bool, ◌&&◌, cond, List, [], ◌∷◌, eqb, leb, Option, Some, None, Result, Err}
use Rattle.berlin.specs.Berlin.{hours, minutes, read_instant}
use Rattle.antwortsatz.specs.declared.Answer.{Answer}
use Rattle.antwortsatz.specs.declared.Refusal.{Refusal}
use Rattle.antwortsatz.specs.declared.Refusal.TheVariants.{UnknownCode}
use Rattle.fragesatz.specs.declared.Question.{Question}
use Rattle.antworten.specs.Reading.{on_code}
use Rattle.antworten_frist.specs.Frist.{contrl_due_at_answer, frist_due_at_answer}
use Rattle.antworten_vorlauf.specs.Vorlauf.{vorlauf_check_answer, vorlauf_span_answer}
use Rattle.berlin.specs.declared.Clock.{Clock}

unfoldable pub clock_of_seconds : ℕ → Option Clock
clock_of_seconds n = cond (leb n 86399) (Some (record { second = n; nanos = 0 })) None

abbrev pub clock_seconds : ℕ → ℕ → ℕ → ℕ
clock_seconds h m s = cond (leb h 23 && (leb m 59 && leb s 59)) (hours h + minutes m + s) 86400

abbrev pub contrl_question_answer : Question → Result Answer Refusal
contrl_question_answer q = contrl_due_at_answer (read_instant q.seconds q.nanos) q.code

abbrev pub frist_question_answer : (ℕ → Bool) → Question → Result Answer Refusal
frist_question_answer w q =
    frist_due_at_answer w q.code q.count (clock_of_seconds q.count2) (read_instant q.seconds q.nanos)

abbrev pub check_question_answer : (ℕ → Bool) → Question → Result Answer Refusal
check_question_answer w q = vorlauf_check_answer w q.code q.count q.count2 q.transmission q.anchor

abbrev pub span_question_answer : (ℕ → Bool) → Question → Result Answer Refusal
span_question_answer w q = vorlauf_span_answer w q.code q.count q.count2 q.transmission

abbrev pub operations : (ℕ → Bool) → Question → List (Result Answer Refusal)
operations w q =
    contrl_question_answer q ∷ frist_question_answer w q ∷ check_question_answer w q ∷ span_question_answer w q ∷ []

unfoldable pub question_answer : (ℕ → Bool) → Question → Result Answer Refusal
question_answer w q =
    cond (eqb q.byte2 0 && eqb q.byte3 0)
    (on_code (operations w q) q.operation (λ a. a))
    (Err UnknownCode)
