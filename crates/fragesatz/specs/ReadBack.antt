-- Reading and writing a question undo each other, and which lengths a file of questions has.
--   FitsDate date, Fits question   each field fits the bytes that it has in a record; `mag` of a signed number is the
--                          number itself from 0 on, and n for -(n + 1)
--   QuestionReadBack       a question whose fields fit is read back from its bytes
--   QuestionWrittenBack    any 32 bytes are those of the question that is read from them: none of them is left out
--   QuestionHas32Bytes     a question has 32 bytes
--   FileByLengths          so many bytes of questions and of answers may be a file exactly if the questions are a
--                          multiple of 32 bytes, at most 65,536, and the answers as many bytes
use Rattle.std.specs.Prelude.{ℕ, ◌%◌, ◌<◌, ◌≤◌, ◌≡◌, ◌↔◌, List, length, All, true}
use Rattle.std.specs.Int.Signed.{mag}
use Rattle.datum.specs.declared.Date.{Date}
use Rattle.fragesatz.specs.declared.Question.{Question}
use Rattle.fragesatz.specs.Record.{question_of, question_bytes}
use Rattle.fragesatz.specs.File.{is_file}

pub record FitsDate (date : Date) : Type 0 where
  pub year_lt : date.year < 65536
  pub month_lt : date.month < 256
  pub day_lt : date.day < 256

pub record Fits (question : Question) : Type 0 where
  pub operation_lt : question.operation < 256
  pub code_lt : question.code < 256
  pub byte2_lt : question.byte2 < 256
  pub byte3_lt : question.byte3 < 256
  pub count_lt : question.count < 4294967296
  pub count2_lt : question.count2 < 4294967296
  pub transmission_fits : FitsDate question.transmission
  pub anchor_fits : FitsDate question.anchor
  pub seconds_fit : mag question.seconds < 9223372036854775808
  pub nanos_lt : question.nanos < 4294967296

abbrev pub QuestionReadBack : Type 0
QuestionReadBack = (question : Question) → Fits question → question_of (question_bytes question) ≡ question

abbrev pub QuestionWrittenBack : Type 0
QuestionWrittenBack =
    (bytes : List ℕ) → All (λ byte. byte < 256) bytes → length bytes ≡ 32 →
    question_bytes (question_of bytes) ≡ bytes

abbrev pub QuestionHas32Bytes : Type 0
QuestionHas32Bytes = (question : Question) → length (question_bytes question) ≡ 32

abbrev pub FileByLengths : Type 0
FileByLengths =
    (questions answers : ℕ) →
    (is_file questions answers ≡ true) ↔ ((questions % 32 ≡ 0) × (questions ≤ 65536) × (answers ≡ questions))
