-- Where the answers of a file stand.
--   answers_length   there are as many bytes of answers as of questions
--   answer_at        record number i of the answers, counted from 0, is the answer of record number i of the questions
--   record_gets      so a question that fits its record gets what a call with its answer leaves in 32 bytes
--   clock_same       the clock of a call, read from the count that a record has for it
-- Assumes nothing.
use Prim.Native.Nat.{ℕ, zero, suc, ◌+◌, ◌*◌, ◌/◌, ◌<◌}
use mathlib.Core.Bool.{Bool, true}
use mathlib.Core.List.{List, ◌++◌}
use mathlib.Core.Path.{◌≡◌, sym, ap, ◌∙◌}
use native.Mathlib.Omega.{arith}
use native.Mathlib.Decide.{dec_le}
use borrow.Author.Tests.{le-leb, lt-leb}
use lib.ListN.{length, take, drop, length-append}
use lib.Seq.{take_at, drop-append-add, drop-drop}
use Rattle.berlin.specs.Berlin.{hours, minutes, read_clock}
use Rattle.antwortsatz.specs.declared.Answer.{Answer}
use Rattle.antwortsatz.specs.declared.Refusal.{Refusal}
use Rattle.antwortsatz.specs.Bytes.{bytes_of, reply}
use Rattle.antwortsatz.proofs.Rules.{bytes_length, reply_whole}
use Rattle.fragesatz.specs.declared.Question.{Question}
use Rattle.fragesatz.specs.Record.{question_of, question_bytes}
use Rattle.fragesatz.specs.File.{is_file, records}
use Rattle.fragesatz.specs.ReadBack.{Fits}
use Rattle.fragesatz.proofs.RoundTrip.{question_back}
use Rattle.fragesatz.proofs.Rules.{file_is}
use Rattle.antworten_frage.specs.Frage.{clock_of_seconds, clock_seconds, question_answer}
use Rattle.antworten_frage.specs.Fragen.{answers_to, questions_reply}
use Rattle.std.specs.Prelude.{Result}

module _ (w : ℕ → Bool) where
  records_length : (k : ℕ) (l : List ℕ) → length (answers_to w (records k l)) ≡ 32 * k
  unfolding answers_to records
  records_length zero l = omega arith
  records_length (suc k) l = simp (length-append, bytes_length, records_length k (drop 32 l)) (omega arith)

  -- the first 32 bytes are the first record; behind them stands a file with one record less
  record_at :
      (k i : ℕ) (l : List ℕ) → i < k →
      take 32 (drop (32 * i) (answers_to w (records k l)))
      ≡ bytes_of (question_answer w (question_of (take 32 (drop (32 * i) l))))
  unfolding answers_to records
  record_at zero i l h = absurd (omega arith)
  record_at (suc k) zero l h = take_at _ _ 32 (bytes_length _)
  record_at (suc k) (suc i) l h =
      let q = bytes_of (question_answer w (question_of (take 32 l))) in
      let r = answers_to w (records k (drop 32 l)) in
      let n : 32 * suc i ≡ 32 + 32 * i = omega arith in
      let s : drop (32 + 32 * i) (q ++ r) ≡ drop (32 * i) r =
      ap (λ (j : ℕ). drop (j + 32 * i) (q ++ r)) (sym (bytes_length _)) ∙ drop-append-add q r (32 * i) in
      rw (n, s, ← drop-drop (32 * i) 32 l) (record_at k i (drop 32 l) (omega arith))

  module _ (l m : List ℕ) (f : is_file (length l) (length m) ≡ true) where
    pub answers_length : length (questions_reply w l m).1 ≡ length l
    unfolding questions_reply
    answers_length = let e = file_is (length l) (length m) f in rw f (records_length (length l / 32) l ∙ omega arith)

    pub answer_at :
        (i : ℕ) → i < length l / 32 →
        take 32 (drop (32 * i) (questions_reply w l m).1)
        ≡ bytes_of (question_answer w (question_of (take 32 (drop (32 * i) l))))
    unfolding questions_reply
    answer_at i h = rw f (record_at (length l / 32) i l h)

  pub record_gets :
      (l m : List ℕ) (i : ℕ) (q : Question) (a : Result Answer Refusal) →
      Fits q → question_answer w q ≡ a →
      is_file (length l) (length m) ≡ true → i < length l / 32 → take 32 (drop (32 * i) l) ≡ question_bytes q →
      (b : List ℕ) → length b ≡ 32 → take 32 (drop (32 * i) (questions_reply w l m).1) ≡ (reply b a).1
  record_gets l m i q a f e p h s b n =
      answer_at l m p i h
      ∙ ap (λ (r : List ℕ). bytes_of (question_answer w (question_of r))) s
      ∙ ap (λ (r : Question). bytes_of (question_answer w r)) (question_back q f)
      ∙ ap bytes_of e
      ∙ sym (ap (λ (r : ℕ × List ℕ). r.1) (reply_whole b a n))

pub clock_same : (h m s : ℕ) → clock_of_seconds (clock_seconds h m s) ≡ read_clock h m s 0
unfolding clock_of_seconds read_clock
clock_same h m s =
    elim (dec_le h 23) [
      | yes a ↦
          elim (dec_le m 59) [
            | yes b ↦
                elim (dec_le s 59) [
                  | yes c ↦
                      rw (
                        le-leb h 23 a,
                        le-leb m 59 b,
                        le-leb s 59 c,
                        le-leb (hours h + minutes m + s) 86399 (omega arith),
                      )
                  | no c ↦ rw (le-leb h 23 a, le-leb m 59 b, lt-leb s 59 (omega arith))
                ]
            | no b ↦ rw (le-leb h 23 a, lt-leb m 59 (omega arith))
          ]
      | no a ↦ rw (lt-leb h 23 (omega arith))
    ]
