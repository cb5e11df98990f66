-- The answers of a file, for any test of a day, and the clock that a due shape has in whole seconds.
--   AnswersAreAsLong      a file's answers are as many bytes as its questions
--   AnswerStandsAtPlace   the 32 bytes at a place of the answers, counted from 0, answer the question at that place
--   ClockFromItsSeconds   the count that a record has for the clock of a call gives that clock, and none if it is none
--   SecondsHaveClock      up to 86,399 a count gives the clock of its hours, minutes and seconds
--   NoClockFromADayOn     from 86,400 on there is none
use Rattle.std.specs.Prelude.{ℕ, ◌*◌, ◌/◌, ◌%◌, ◌<◌, ◌≤◌, ◌≡◌, Bool, true, List, length, take, drop, None}
use Rattle.berlin.specs.Berlin.{read_clock}
use Rattle.antwortsatz.specs.Bytes.{bytes_of}
use Rattle.fragesatz.specs.Record.{question_of}
use Rattle.fragesatz.specs.File.{is_file}
use Rattle.antworten_frage.specs.Frage.{clock_of_seconds, clock_seconds, question_answer}
use Rattle.antworten_frage.specs.Fragen.{questions_reply}

abbrev pub AnswersAreAsLong : Type 0
AnswersAreAsLong =
    (is_open : ℕ → Bool) (questions answers : List ℕ) → is_file (length questions) (length answers) ≡ true →
    length (questions_reply is_open questions answers).1 ≡ length questions

abbrev pub AnswerStandsAtPlace : Type 0
AnswerStandsAtPlace =
    (is_open : ℕ → Bool) (questions answers : List ℕ) (place : ℕ) →
    is_file (length questions) (length answers) ≡ true → place < length questions / 32 →
    take 32 (drop (32 * place) (questions_reply is_open questions answers).1)
    ≡ bytes_of (question_answer is_open (question_of (take 32 (drop (32 * place) questions))))

abbrev pub ClockFromItsSeconds : Type 0
ClockFromItsSeconds =
    (hour minute second : ℕ) →
    clock_of_seconds (clock_seconds hour minute second) ≡ read_clock hour minute second 0

abbrev pub SecondsHaveClock : Type 0
SecondsHaveClock =
    (count : ℕ) → count ≤ 86399 →
    clock_of_seconds count ≡ read_clock (count / 3600) (count / 60 % 60) (count % 60) 0

abbrev pub NoClockFromADayOn : Type 0
NoClockFromADayOn = (count : ℕ) → 86399 < count → clock_of_seconds count ≡ None
