-- What a stored line comes to, its end left out: 128 digits of a question, a space, 64 of its answer.
--   line_case l   = the number that the call returns and the bytes that it leaves for the question of the line, and the
--                   bytes that the line expects; None where the line has another form, or its question no call
--   IsEqualLine l = the line l has the length of a line and that form; the call leaves the bytes that it expects, and
--                   returns the first of them
--   unwritten     = what an answer's place holds before the call
use Rattle.std.specs.Prelude.{◌≡◌, ℕ, Bool, ◌&&◌, List, length, get_or, replicate, Option, None, nat_eq, IsSomeAnd}
use Rattle.std.specs.Prelude.{if◌then◌else◌, option_map, option_and_then}
use Rattle.antwortsatz.specs.Bytes.{reply}
use Rattle.vektoren.specs.Hex.{bytes_at}
use Rattle.vektoren.specs.Asked.{stored_question, stored_answer}

abbrev pub unwritten : List ℕ
unwritten = replicate 32 170

-- a space is 32; bytes 2, 3 and 31 of a question no call reads
abbrev pub has_form : List ℕ → List ℕ → Bool
has_form l bs =
    nat_eq (get_or l 128 0) 32 && (nat_eq (get_or bs 2 0) 0 && (nat_eq (get_or bs 3 0) 0 && nat_eq (get_or bs 31 0) 0))

unfoldable pub line_case : List ℕ → Option ((ℕ × List ℕ) × List ℕ)
line_case l =
    option_and_then (λ bs. option_and_then (λ e.
    if has_form l bs then option_map (λ a. (reply unwritten a, e)) (stored_answer (stored_question bs)) else None)
    (bytes_at l 129 32)) (bytes_at l 0 64)

pub record IsEqualLine (l : List ℕ) : Type 0 where
  pub sized : length l ≡ 193
  pub same : IsSomeAnd (line_case l) (λ c. c.0 ≡ (get_or c.1 0 0, c.1))
