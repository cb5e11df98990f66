-- A file of questions: which lengths it may have, and its records.
--   is_file n m    = whether n bytes of questions and m bytes of answers may be a file
--   records k l    = the first k records of the bytes l, in order
--   questions_of l = the questions of the file l, in order
-- Source: document 02, F-1: '9 .. if the question bytes are no multiple of 32 or exceed 65,536, or the answers differ
-- in length'; 'Each record is read from its own stretch of the lent bytes.'
-- Assumes nothing.
use Rattle.std.specs.Prelude.{ℕ, zero, suc, ◌/◌, ◌%◌, Bool, ◌&&◌, List, [], ◌∷◌, eqb, leb, length, take, drop}
use Rattle.fragesatz.specs.declared.Question.{Question}
use Rattle.fragesatz.specs.Record.{question_of}

unfoldable pub is_file : ℕ → ℕ → Bool
is_file n m = eqb (n % 32) 0 && (leb n 65536 && eqb m n)

unfoldable pub records : ℕ → List ℕ → List Question
records zero l = []
records (suc k) l = question_of (take 32 l) ∷ records k (drop 32 l)

abbrev pub questions_of : List ℕ → List Question
questions_of l = records (length l / 32) l
