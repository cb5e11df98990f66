-- A question of a file is answered as the single call is: the record made from a call's parameters, at any place of a
-- file, gets the 32 bytes that the call leaves in an answer of its own. It holds for any test of a day.
--   Stands questions answers place question   questions and answers are a file, whose record at the place, counted from
--                        0, is the question's
--   Gets is_open questions answers place answer   at the place the file's answers hold what a call that answers so
--                        leaves in any slice of 32 bytes
--   AnsweredAs question answer   so it is wherever the question stands in a file, if its fields fit their bytes
-- What a call does not use may be anything in the record:
--   ContrlAsCall         a CONTRL, operation 0, which uses no counts and no dates
--   FristAsCall          a due shape, operation 1, whose clock has whole seconds, and which uses no dates
--   EndOfWerktagAsCall   its shape 1, `EndOfWerktag`, which uses no clock, whatever the call has for one
--   SameDayAsCall        its shape 3, `SameDay`, which uses no count and no clock
--   CheckAsCall          a verdict, operation 2, which uses no instant
--   SpanAsCall           a span, operation 3, which uses no anchor and no instant
use Rattle.std.specs.Prelude.{ℕ, ◌*◌, ◌/◌, ◌<◌, ◌≡◌, Bool, true, List, length, take, drop, ℤ, Option, Result}
use Rattle.datum.specs.declared.Date.{Date}
use Rattle.berlin.specs.declared.Clock.{Clock}
use Rattle.berlin.specs.Berlin.{read_instant, read_clock}
use Rattle.antwortsatz.specs.declared.Answer.{Answer}
use Rattle.antwortsatz.specs.declared.Refusal.{Refusal}
use Rattle.antwortsatz.specs.Bytes.{reply}
use Rattle.fragesatz.specs.declared.Question.{Question}
use Rattle.fragesatz.specs.Record.{question_bytes, asked}
use Rattle.fragesatz.specs.File.{is_file}
use Rattle.fragesatz.specs.ReadBack.{Fits}
use Rattle.antworten_frist.specs.Frist.{contrl_due_at_answer, frist_due_at_answer}
use Rattle.antworten_vorlauf.specs.Vorlauf.{vorlauf_check_answer, vorlauf_span_answer}
use Rattle.antworten_frage.specs.Frage.{clock_seconds}
use Rattle.antworten_frage.specs.Fragen.{questions_reply}

pub record Stands (questions answers : List ℕ) (place : ℕ) (question : Question) : Type 0 where
  pub file : is_file (length questions) (length answers) ≡ true
  pub inside : place < length questions / 32
  pub bytes : take 32 (drop (32 * place) questions) ≡ question_bytes question

abbrev pub Gets : (ℕ → Bool) → List ℕ → List ℕ → ℕ → Result Answer Refusal → Type 0
Gets is_open questions answers place answer =
    (bytes : List ℕ) → length bytes ≡ 32 →
    take 32 (drop (32 * place) (questions_reply is_open questions answers).1) ≡ (reply bytes answer).1

abbrev pub AnsweredAs : Question → ((ℕ → Bool) → Result Answer Refusal) → Type 0
AnsweredAs question answer =
    (is_open : ℕ → Bool) (questions answers : List ℕ) (place : ℕ) →
    Fits question → Stands questions answers place question → Gets is_open questions answers place (answer is_open)

abbrev pub ContrlAsCall : Type 0
ContrlAsCall =
    (occasion count count2 : ℕ) (transmission anchor : Date) (seconds : ℤ) (nanos : ℕ) →
    AnsweredAs (asked 0 occasion count count2 transmission anchor seconds nanos)
    (λ is_open. contrl_due_at_answer (read_instant seconds nanos) occasion)

abbrev pub FristAsCall : Type 0
FristAsCall =
    (shape count hour minute second : ℕ) (transmission anchor : Date) (seconds : ℤ) (nanos : ℕ) →
    AnsweredAs (asked 1 shape count (clock_seconds hour minute second) transmission anchor seconds nanos)
    (λ is_open. frist_due_at_answer is_open shape count (read_clock hour minute second 0) (read_instant seconds nanos))

abbrev pub EndOfWerktagAsCall : Type 0
EndOfWerktagAsCall =
    (count count2 : ℕ) (clock : Option Clock) (transmission anchor : Date) (seconds : ℤ) (nanos : ℕ) →
    AnsweredAs (asked 1 1 count count2 transmission anchor seconds nanos)
    (λ is_open. frist_due_at_answer is_open 1 count clock (read_instant seconds nanos))

abbrev pub SameDayAsCall : Type 0
SameDayAsCall =
    (count count2 other : ℕ) (clock : Option Clock) (transmission anchor : Date) (seconds : ℤ) (nanos : ℕ) →
    AnsweredAs (asked 1 3 count count2 transmission anchor seconds nanos)
    (λ is_open. frist_due_at_answer is_open 3 other clock (read_instant seconds nanos))

abbrev pub CheckAsCall : Type 0
CheckAsCall =
    (shape count count2 : ℕ) (transmission anchor : Date) (seconds : ℤ) (nanos : ℕ) →
    AnsweredAs (asked 2 shape count count2 transmission anchor seconds nanos)
    (λ is_open. vorlauf_check_answer is_open shape count count2 transmission anchor)

abbrev pub SpanAsCall : Type 0
SpanAsCall =
    (shape count count2 : ℕ) (transmission anchor : Date) (seconds : ℤ) (nanos : ℕ) →
    AnsweredAs (asked 3 shape count count2 transmission anchor seconds nanos)
    (λ is_open. vorlauf_span_answer is_open shape count count2 transmission)
