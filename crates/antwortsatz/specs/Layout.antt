-- What stands in the 32 bytes of an answer, `bytes_of`, and that each field is read from its place there: byte 0 is the
-- refusal's number or 0, 1 the kind, 2 and 3 zero, 4 to 7 the count, 8 to 15 the seconds, signed, 16 to 19 the
-- nanoseconds, 20 to 31 three words of 4 bytes. All are little-endian. An answer is `Ok`, a refusal `Err`.
--   AnswerHas32Bytes        an answer has 32 bytes, a refusal too
--   AnswerBytesFit          each byte of an answer is below 256, if its kind is
--   RefusalBytesFit         each byte of a refusal is below 256
--   AnswerBeginsWithZero    byte 0 of an answer is 0
--   RefusalBeginsWithNumber   byte 0 of a refusal is its number
--   RefusalIsNumberAlone    bytes 1 to 31 of a refusal are zero
-- Of any number beside any fields, `numbered_bytes`, of which those of an answer and of a refusal are some:
--   NumberedHas32Bytes      they are 32 bytes
--   NumberedBytesFit        each is below 256, if the number and the kind are
--   NumberIsAlone           beside no fields the number is alone: bytes 1 to 31 are zero
--   AnswerIsNumbered        an answer's bytes are those of 0 beside its fields
--   RefusalIsNumbered       a refusal's are those of its number beside no fields
--   AnswerReplyIsNumbered   a call with an answer returns and leaves what it does with 0 beside the answer's fields
--   RefusalReplyIsNumbered   one with a refusal what it does with its number beside no fields
-- Of an answer, where the field fits its bytes:
--   KindInByte1             the kind is byte 1
--   ZeroInBytes2And3        bytes 2 and 3 are zero
--   CountFromByte4          the count is read from bytes 4 to 7
--   SecondsFromByte8        the seconds, signed, from bytes 8 to 15
--   NanosFromByte16         the nanoseconds from bytes 16 to 19
--   Word20FromByte20        the first word from bytes 20 to 23
--   Word24FromByte24        the second from bytes 24 to 27
--   Word28FromByte28        the third from bytes 28 to 31
-- A date is a word, and the margin of a verdict is the third word of its answer, as a signed number:
--   DateWordBytes           the bytes of a date are those of its year, 2 bytes, its month and its day
--   MarginFromByte28        the margin is read from bytes 28 to 31
--   NoMarginBesideKindAlone   in an answer that is a kind alone, as where there is no shape, these bytes give 0
--   NoMarginInRefusal       in a refusal they give 0 too
use Rattle.std.specs.Prelude.{ℕ, ◌<◌, ◌≡◌, List, [], ◌∷◌, ◌++◌, length, replicate, slice_get, All, ℤ, pos, FitsSigned}
use Rattle.std.specs.Prelude.{Option, Some, Result, Ok, Err}
use Rattle.std.specs.Int.{w32, w64}
use Rattle.datum.specs.declared.Date.{Date}
use Rattle.zahlen.specs.LittleEndian.{le2, le4}
use Rattle.zahlen.specs.Places.{u16_at, u32_at, i64_at}
use Rattle.zahlen.specs.ReadBack.{i32_at}
use Rattle.antwortsatz.specs.declared.Answer.{Answer}
use Rattle.antwortsatz.specs.declared.Refusal.{Refusal}
use Rattle.antwortsatz.specs.Refusals.{number}
use Rattle.antwortsatz.specs.Answers.{no_fields, date_word, of_kind, judged}
use Rattle.antwortsatz.specs.Bytes.{bytes_of, reply, numbered_bytes, numbered_reply}

abbrev pub AnswerHas32Bytes : Type 0
AnswerHas32Bytes = (answer : Result Answer Refusal) → length (bytes_of answer) ≡ 32

abbrev pub AnswerBytesFit : Type 0
AnswerBytesFit = (answer : Answer) → answer.kind < 256 → All (λ byte. byte < 256) (bytes_of (Ok answer))

abbrev pub RefusalBytesFit : Type 0
RefusalBytesFit = (refusal : Refusal) → All (λ byte. byte < 256) (bytes_of (Err refusal))

abbrev pub AnswerBeginsWithZero : Type 0
AnswerBeginsWithZero = (answer : Answer) → slice_get (bytes_of (Ok answer)) 0 ≡ Some 0

abbrev pub RefusalBeginsWithNumber : Type 0
RefusalBeginsWithNumber = (refusal : Refusal) → slice_get (bytes_of (Err refusal)) 0 ≡ Some (number refusal)

abbrev pub RefusalIsNumberAlone : Type 0
RefusalIsNumberAlone = (refusal : Refusal) → bytes_of (Err refusal) ≡ number refusal ∷ replicate 31 0

abbrev pub NumberedHas32Bytes : Type 0
NumberedHas32Bytes = (number : ℕ) (fields : Answer) → length (numbered_bytes number fields) ≡ 32

abbrev pub NumberedBytesFit : Type 0
NumberedBytesFit =
    (number : ℕ) (fields : Answer) → number < 256 → fields.kind < 256 →
    All (λ byte. byte < 256) (numbered_bytes number fields)

abbrev pub NumberIsAlone : Type 0
NumberIsAlone = (number : ℕ) → numbered_bytes number no_fields ≡ number ∷ replicate 31 0

abbrev pub AnswerIsNumbered : Type 0
AnswerIsNumbered = (answer : Answer) → bytes_of (Ok answer) ≡ numbered_bytes 0 answer

abbrev pub RefusalIsNumbered : Type 0
RefusalIsNumbered = (refusal : Refusal) → bytes_of (Err refusal) ≡ numbered_bytes (number refusal) no_fields

abbrev pub AnswerReplyIsNumbered : Type 0
AnswerReplyIsNumbered =
    (slice : List ℕ) (answer : Answer) → reply slice (Ok answer) ≡ numbered_reply slice 0 answer

abbrev pub RefusalReplyIsNumbered : Type 0
RefusalReplyIsNumbered =
    (slice : List ℕ) (refusal : Refusal) →
    reply slice (Err refusal) ≡ numbered_reply slice (number refusal) no_fields

abbrev pub KindInByte1 : Type 0
KindInByte1 = (answer : Answer) → slice_get (bytes_of (Ok answer)) 1 ≡ Some answer.kind

abbrev pub ZeroInBytes2And3 : Type 0
ZeroInBytes2And3 = (answer : Answer) → u16_at (bytes_of (Ok answer)) 2 ≡ 0

abbrev pub CountFromByte4 : Type 0
CountFromByte4 = (answer : Answer) → answer.count < 4294967296 → u32_at (bytes_of (Ok answer)) 4 ≡ answer.count

abbrev pub SecondsFromByte8 : Type 0
SecondsFromByte8 =
    (answer : Answer) → FitsSigned w64 answer.seconds → i64_at (bytes_of (Ok answer)) 8 ≡ answer.seconds

abbrev pub NanosFromByte16 : Type 0
NanosFromByte16 = (answer : Answer) → answer.nanos < 4294967296 → u32_at (bytes_of (Ok answer)) 16 ≡ answer.nanos

abbrev pub Word20FromByte20 : Type 0
Word20FromByte20 = (answer : Answer) → answer.word20 < 4294967296 → u32_at (bytes_of (Ok answer)) 20 ≡ answer.word20

abbrev pub Word24FromByte24 : Type 0
Word24FromByte24 = (answer : Answer) → answer.word24 < 4294967296 → u32_at (bytes_of (Ok answer)) 24 ≡ answer.word24

abbrev pub Word28FromByte28 : Type 0
Word28FromByte28 = (answer : Answer) → answer.word28 < 4294967296 → u32_at (bytes_of (Ok answer)) 28 ≡ answer.word28

abbrev pub DateWordBytes : Type 0
DateWordBytes =
    (date : Date) → date.year < 65536 → date.month < 256 → date.day < 256 →
    le4 (date_word date) ≡ le2 date.year ++ (date.month ∷ date.day ∷ [])

abbrev pub MarginFromByte28 : Type 0
MarginFromByte28 =
    (kind count : ℕ) (date : Option Date) (margin : ℤ) → FitsSigned w32 margin →
    i32_at (bytes_of (Ok (judged kind count date margin))) 28 ≡ margin

abbrev pub NoMarginBesideKindAlone : Type 0
NoMarginBesideKindAlone = (kind : ℕ) → i32_at (bytes_of (Ok (of_kind kind))) 28 ≡ pos 0

abbrev pub NoMarginInRefusal : Type 0
NoMarginInRefusal = (refusal : Refusal) → i32_at (bytes_of (Err refusal)) 28 ≡ pos 0
