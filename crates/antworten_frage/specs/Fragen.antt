-- What a file of questions answers. w is the test of a day: a Werktag by some list.
--   answers_to w l        = the 32 bytes of each question's answer, one behind the other
--   questions_reply w l m = the number returned and the answers at exit, for the questions l and answers that held m at
--                           entry
-- Source: document 02, F-1: 'One answer of 32 bytes goes out per question, in the questions' order, refusals included';
-- '9, before all others and for the whole call, if the question bytes are no multiple of 32 or exceed 65,536, or the
-- answers differ in length; then the answers stay untouched'.
-- Assumes nothing.
use Rattle.std.specs.Prelude.{ℕ, Bool, cond, List, [], ◌∷◌, ◌++◌, length}
use Rattle.antwortsatz.specs.Bytes.{bytes_of}
use Rattle.antwortsatz.specs.declared.Refusal.TheVariants.{FileLength}
use Rattle.antwortsatz.specs.Refusals.{number}
use Rattle.fragesatz.specs.declared.Question.{Question}
use Rattle.fragesatz.specs.File.{is_file, questions_of}
use Rattle.antworten_frage.specs.Frage.{question_answer}

unfoldable pub answers_to : (ℕ → Bool) → List Question → List ℕ
answers_to w [] = []
answers_to w (q ∷ l) = bytes_of (question_answer w q) ++ answers_to w l

unfoldable pub questions_reply : (ℕ → Bool) → List ℕ → List ℕ → ℕ × List ℕ
questions_reply w l m = cond (is_file (length l) (length m)) (0, answers_to w (questions_of l)) (number FileLength, m)
