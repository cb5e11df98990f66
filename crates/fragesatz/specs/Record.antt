-- The 32 bytes of a question, read and written.
--   date_at l i           = the date in the four bytes of l that start at i
--   question_of l         = the question that the 32 bytes l are
--   date_bytes d          = the four bytes of the date d
--   question_bytes q      = the 32 bytes of the question q
--   asked o c n m d e s x = the question of all its fields, in the order of their bytes, with zero in bytes 2 and 3
-- Reading and writing undo each other (ReadBack).
-- Source: document 02, F-1: 'question records of 32 bytes, little-endian, without a header. Byte 0 is the operation ..;
-- 1 the occasion or shape code; 2 and 3 zero; 4 to 7 and 8 to 11 the two counts in the Rust's order; 12 to 15
-- transmission date; 16 to 19 anchor; 20 to 27 seconds; 28 to 31 nanoseconds.' A date is laid out as in the answer,
-- document 01, 'Host calls and their refusals': 'a date (year 2 bytes, month, day)'.
-- Assumes nothing.
use Rattle.std.specs.Prelude.{ℕ, ◌+◌, List, [], ◌∷◌, ◌++◌, ℤ, get_or}
use Rattle.datum.specs.declared.Date.{Date}
use Rattle.zahlen.specs.LittleEndian.{le2, le4, le8}
use Rattle.zahlen.specs.TwosComplement.{bits_of}
use Rattle.zahlen.specs.Places.{u16_at, u32_at, i64_at}
use Rattle.fragesatz.specs.declared.Question.{Question}

abbrev pub date_at : List ℕ → ℕ → Date
date_at l i = record { year = u16_at l i; month = get_or l (i + 2) 0; day = get_or l (i + 3) 0 }

unfoldable pub question_of : List ℕ → Question
question_of l =
    record {
      operation = get_or l 0 0;
      code = get_or l 1 0;
      byte2 = get_or l 2 0;
      byte3 = get_or l 3 0;
      count = u32_at l 4;
      count2 = u32_at l 8;
      transmission = date_at l 12;
      anchor = date_at l 16;
      seconds = i64_at l 20;
      nanos = u32_at l 28;
    }

abbrev pub date_bytes : Date → List ℕ
date_bytes d = le2 d.year ++ (d.month ∷ d.day ∷ [])

unfoldable pub question_bytes : Question → List ℕ
question_bytes q =
    q.operation ∷ q.code ∷ q.byte2 ∷ q.byte3 ∷
    (le4 q.count ++ (le4 q.count2 ++
    (date_bytes q.transmission ++ (date_bytes q.anchor ++ (le8 (bits_of q.seconds) ++ le4 q.nanos)))))

abbrev pub asked : ℕ → ℕ → ℕ → ℕ → Date → Date → ℤ → ℕ → Question
asked o c n m d e s x =
    record {
      operation = o;
      code = c;
      byte2 = 0;
      byte3 = 0;
      count = n;
      count2 = m;
      transmission = d;
      anchor = e;
      seconds = s;
      nanos = x;
    }
