-- The 32 bytes of an answer, and what a host call with that answer returns and leaves in the slice.
--   refusal_of a         = the number returned: the refusal's, or 0
--   bytes_of a           = the 32 bytes of the answer a, where a refusal leaves all but its number zero
--   reply l a            = the number returned and the slice at exit, for a slice that held l at entry and the answer a
--   numbered_bytes x a   = the 32 bytes of the fields of a, with the number x in byte 0, be it a refusal's or not
--   numbered_reply l x a = as reply, for the number x beside the fields of a
-- Source: document 01, 'Host calls and their refusals': 'an answer of 32 bytes, little-endian, no header: byte 0
-- refusal number or 0; 1 kind; 2 and 3 zero; 4 to 7 count; 8 to 15 seconds, signed; 16 to 19 nanoseconds; 20 to 23 a
-- date (year 2 bytes, month, day); 24 to 27 the span's last date; 28 to 31 zero'; 'A refusal leaves bytes 1 to 31
-- zero'; '1, the answer isn't 32 bytes long', 'which leaves the slice untouched'. A date's four bytes are those of
-- `date_word` (Layout: `DateWordBytes`).
-- Assumes nothing.
use Rattle.std.specs.Prelude.{ℕ, cond, List, ◌∷◌, ◌++◌, eqb, length, replicate, Result, Ok, Err}
use Rattle.zahlen.specs.LittleEndian.{le4, le8}
use Rattle.zahlen.specs.TwosComplement.{bits_of}
use Rattle.antwortsatz.specs.declared.Answer.{Answer}
use Rattle.antwortsatz.specs.declared.Refusal.{Refusal}
use Rattle.antwortsatz.specs.declared.Refusal.TheVariants.{AnswerLength}
use Rattle.antwortsatz.specs.Refusals.{number}

abbrev pub refusal_of : Result Answer Refusal → ℕ
refusal_of (Ok a) = 0
refusal_of (Err r) = number r

unfoldable pub bytes_of : Result Answer Refusal → List ℕ
bytes_of (Ok a) =
    0 ∷ a.kind ∷ 0 ∷ 0 ∷
    (le4 a.count ++ (le8 (bits_of a.seconds) ++ (le4 a.nanos ++
    (le4 a.word20 ++ (le4 a.word24 ++ le4 a.word28)))))
bytes_of (Err r) = number r ∷ replicate 31 0

unfoldable pub reply : List ℕ → Result Answer Refusal → ℕ × List ℕ
reply l a = cond (eqb (length l) 32) (refusal_of a, bytes_of a) (number AnswerLength, l)

unfoldable pub numbered_bytes : ℕ → Answer → List ℕ
numbered_bytes x a =
    x ∷ a.kind ∷ 0 ∷ 0 ∷
    (le4 a.count ++ (le8 (bits_of a.seconds) ++ (le4 a.nanos ++
    (le4 a.word20 ++ (le4 a.word24 ++ le4 a.word28)))))

unfoldable pub numbered_reply : List ℕ → ℕ → Answer → ℕ × List ℕ
numbered_reply l x a = cond (eqb (length l) 32) (x, numbered_bytes x a) (number AnswerLength, l)
