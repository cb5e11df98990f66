-- What the proofs cite: each rule's premises have the form in which a proof has them, so that `search` finds the rule.
--   Answered         what holds as a file is answered: the answers so far and those still to come are those of the file
--   one_more         one answer more
--   no_file          lengths that no file has
--   file_answered    all of them
-- Assumes nothing.
use Prim.Native.Nat.{ℕ, suc, ◌+◌, ◌-◌, ◌/◌, ◌%◌, ◌≤◌, ◌<◌}
use mathlib.Core.Bool.{Bool, true, false}
use mathlib.Core.List.{List, ◌++◌, append_assoc, append-nil}
use mathlib.Core.Path.{◌≡◌, sym, ap, ◌∙◌}
use native.Mathlib.Omega.{arith}
use borrow.Rule.Slice.PartMut.{put_mid, post_of}
use lib.ListN.{length, take, drop, length-drop, length-append}
use lib.Seq.{take_all, take_at, drop-drop, length-take-le}
use Rattle.antwortsatz.specs.declared.Answer.{Answer}
use Rattle.antwortsatz.specs.declared.Refusal.{Refusal}
use Rattle.std.specs.Prelude.{Result}
use Rattle.antwortsatz.specs.Bytes.{bytes_of, reply}
use Rattle.antwortsatz.specs.declared.Refusal.TheVariants.{FileLength}
use Rattle.antwortsatz.specs.Refusals.{number}
use Rattle.antwortsatz.proofs.Rules.{bytes_length, reply_whole}
use Rattle.fragesatz.specs.declared.Question.{Question}
use Rattle.fragesatz.specs.Record.{question_of}
use Rattle.fragesatz.specs.File.{is_file, records, questions_of}
use Rattle.fragesatz.proofs.Rules.{FileLengths, file_is}
use Rattle.antworten_frage.specs.Frage.{question_answer}
use Rattle.antworten_frage.specs.Fragen.{answers_to, questions_reply}

-- what is left in a slice of 32 bytes
replied : (l p : List ℕ) (x : Result Answer Refusal) (r : ℕ) → length l ≡ 32 → (r, p) ≡ reply l x → p ≡ bytes_of x
replied l p x r n e = ap (λ (z : ℕ × List ℕ). z.1) (e ∙ reply_whole l x n)

-- what stands up to the end of a part that was put back: what stood before it, and the part
up_to_part :
    (m p : List ℕ) (a k n : ℕ) → a ≤ length m → length p ≡ n → take (a + n) (put_mid a k m p) ≡ take a m ++ p
up_to_part m p a k n h e =
    rw (← append_assoc (take a m) p (post_of a k m))
    (take_at (take a m ++ p) (post_of a k m) (a + n) (simp (length-append, length-take-le a m h) (omega arith)))

-- a bytes of the file l are answered, and m is what the answers hold
abbrev pub Answered : (ℕ → Bool) → List ℕ → List ℕ → ℕ → Type 0
Answered w l m a = take a m ++ answers_to w (records ((length l - a) / 32) (drop a l)) ≡ answers_to w (questions_of l)

module _ (w : ℕ → Bool) (l m : List ℕ) where
  pub none_answered : Answered w l m 0
  none_answered = let z : length l - 0 ≡ length l = omega arith in rw z

  pub all_answered : (a : ℕ) → Answered w l m a → length m ≡ length l → length l ≤ a → m ≡ answers_to w (questions_of l)
  unfolding answers_to records
  all_answered a e h k =
      let t : take a m ≡ m = take_all a m (omega arith) in
      let z : (length l - a) / 32 ≡ 0 = omega arith in
      sym (append-nil m) ∙ (rw (t, z) at e)

  -- q is what `question_of` returned, x its answer, and p what `reply` left in the answer's part
  pub one_more :
      (a : ℕ) (q : Question) (x : Result Answer Refusal) (p : List ℕ) (r : ℕ) →
      length m ≡ length l → length l % 32 ≡ 0 → a % 32 ≡ 0 → a < length l →
      q ≡ question_of (take (a + 32 - a) (drop a l)) →
      x ≡ question_answer w q → (r, p) ≡ reply (take (a + 32 - a) (drop a m)) x →
      (c : ℕ) → c ≡ a + 32 → Answered w l m a → Answered w l (put_mid a (a + 32 - a) m p) c
  unfolding answers_to records
  one_more a q x p r h g b k i y o c f e =
      let s : a + 32 - a ≡ 32 = omega arith in
      let n : length (take 32 (drop a m)) ≡ 32 = length-take-le 32 (drop a m) (omega (arith, length-drop a m)) in
      let v : p ≡ bytes_of (question_answer w (question_of (take 32 (drop a l)))) =
      replied (take 32 (drop a m)) p x r n (rw s at o)
      ∙ ap bytes_of y
      ∙ ap (λ (z : Question). bytes_of (question_answer w z)) (rw s at i) in
      let j : (length l - a) / 32 ≡ suc ((length l - (a + 32)) / 32) = omega arith in
      rw (f, up_to_part m p a (a + 32 - a) 32 (omega arith) (ap length v ∙ bytes_length _), v)
      (append_assoc (take a m) _ _ ∙ (rw (j, drop-drop 32 a l) at e))

-- b is what `is_file` returned for the two lengths
module _ (w : ℕ → Bool) (l m : List ℕ) (b : Bool) (e : b ≡ is_file (length l) (length m)) where
  pub no_file : b ≡ false → (number FileLength, m) ≡ questions_reply w l m
  unfolding questions_reply
  no_file t = rw (sym e ∙ t)

  pub file_lengths : b ≡ true → FileLengths (length l) (length m)
  file_lengths t = file_is (length l) (length m) (sym e ∙ t)

  pub file_answered :
      (n : List ℕ) (a : ℕ) →
      b ≡ true → Answered w l n a → length n ≡ length m → length l ≤ a → (0, n) ≡ questions_reply w l m
  unfolding questions_reply
  file_answered n a t f h k = rw (sym e ∙ t, all_answered w l n a f (h ∙ (file_lengths t).same) k)
