-- What the proofs cite: each rule's premises have the form in which a proof has them, so that `search` finds the rule.
--   bytes_length  an answer has 32 bytes
--   numbered_are, seconds_bits   for `numbered_bytes`: the seconds may be any way to say their bits, as std's is
--   answer_numbered, refusal_numbered   for `bytes_of`: an answer is 0 beside its fields, a refusal its number beside
--                 none
--   numbered_below   each byte of a number beside fields fits, if the number and the kind do
--   reply_other   a slice of another length than 32 is left as it was
--   reply_whole   what a slice of 32 bytes gets
--   reply_done    for `reply_with`: all 32 bytes are written, and the first is returned
--   numbered_rules   for `numbered_reply`: what `reply` refuses is left; else byte 0 is there, and gets the number
-- Assumes nothing.
use Prim.Native.Nat.{ℕ, ◌<◌}
use mathlib.Core.Path.{◌≡◌, refl, ap, ◌∙◌}
use mathlib.Core.List.{List, ◌∷◌, ◌++◌}
use native.Mathlib.Decide.{ℕ_discrete as dec_eq}
use native.Mathlib.Omega.{arith}
use borrow.Author.Tests.{eq-eqb, ne_eqb}
use mir.Syntax.{w64}
use mir.Val.{SFits, to_z, of_z}
use mir.Facts.{to_z-of_z}
use lib.IntN.{ℤ}
use lib.ListN.{length, get_or, set}
use Rattle.std.specs.Prelude.{Result, Ok, Err}
use Rattle.zahlen.specs.LittleEndian.{le4, le8}
use Rattle.zahlen.specs.TwosComplement.{bits_in, bits_of}
use Rattle.zahlen.proofs.Std.{bits_std}
use Rattle.zahlen.proofs.RoundTrip.{Below, below_append, le_below, le4_is, le8_is}
use Rattle.zahlen.proofs.RoundTrip.Below.{more}
use Rattle.antwortsatz.specs.declared.Answer.{Answer}
use Rattle.antwortsatz.specs.declared.Refusal.{Refusal}
use Rattle.antwortsatz.specs.Refusals.{number}
use Rattle.antwortsatz.specs.Answers.{no_fields}
use Rattle.antwortsatz.specs.Bytes.{refusal_of, bytes_of, reply, numbered_bytes, numbered_reply}

pub bytes_length : (a : Result Answer Refusal) → length (bytes_of a) ≡ 32
unfolding bytes_of
bytes_length (Ok a) = refl
bytes_length (Err r) = refl

pub seconds_bits : (z : ℤ) → SFits w64 z → of_z w64 (to_z w64 (of_z w64 z)) ≡ bits_of z
seconds_bits z f = rw (to_z-of_z f, bits_std)

pub numbered_are :
    (x : ℕ) (a : Answer) (s : ℕ) → s ≡ bits_of a.seconds →
    x ∷ a.kind ∷ 0 ∷ 0 ∷
    (le4 a.count ++ (le8 s ++ (le4 a.nanos ++ (le4 a.word20 ++ (le4 a.word24 ++ le4 a.word28))))) ≡ numbered_bytes x a
unfolding numbered_bytes
numbered_are x a s e = rw e

pub ruleset fields_rules = (numbered_are, seconds_bits)

pub answer_numbered : (a : Answer) → bytes_of (Ok a) ≡ numbered_bytes 0 a
unfolding bytes_of numbered_bytes
answer_numbered a = refl

pub refusal_numbered : (r : Refusal) → bytes_of (Err r) ≡ numbered_bytes (number r) no_fields
unfolding bytes_of numbered_bytes bits_in
refusal_numbered r = refl

pub ruleset bytes_rules = (answer_numbered, refusal_numbered)

below_le4 : (x : ℕ) → Below (le4 x)
below_le4 x = rw le4_is (le_below 4 x)

below_le8 : (x : ℕ) → Below (le8 x)
below_le8 x = rw le8_is (le_below 8 x)

null : 0 < 256
null = omega arith

pub numbered_below : (x : ℕ) (a : Answer) → x < 256 → a.kind < 256 → Below (numbered_bytes x a)
unfolding numbered_bytes
numbered_below x a n k =
    more n (more k (more null (more null
    (below_append (below_le4 a.count)
    (below_append (below_le8 (bits_of a.seconds))
    (below_append (below_le4 a.nanos)
    (below_append (below_le4 a.word20)
    (below_append (below_le4 a.word24) (below_le4 a.word28)))))))))

pub reply_other :
    (l : List ℕ) (a : Result Answer Refusal) (r : ℕ) → r ≡ 1 → (length l ≡ 32 → ⊥) → (r, l) ≡ reply l a
unfolding reply
reply_other l a r e h = rw (ne_eqb (length l) 32 h, e)

pub reply_whole : (l : List ℕ) (a : Result Answer Refusal) → length l ≡ 32 → reply l a ≡ (refusal_of a, bytes_of a)
unfolding reply
reply_whole l a h = rw (eq-eqb (length l) 32 h)

first_byte : (a : Result Answer Refusal) → get_or (bytes_of a) 0 0 ≡ refusal_of a
unfolding bytes_of
first_byte (Ok a) = refl
first_byte (Err r) = refl

pub reply_done :
    (l b : List ℕ) (a : Result Answer Refusal) → length l ≡ 32 → b ≡ bytes_of a → (get_or b 0 0, b) ≡ reply l a
reply_done l b a h e = rw (reply_whole l a h, e, first_byte a)

pub ruleset reply_rules = (reply_other, reply_done)

reply_else : (l : List ℕ) (a : Result Answer Refusal) → (length l ≡ 32 → ⊥) → reply l a ≡ (1, l)
unfolding reply
reply_else l a h = rw (ne_eqb (length l) 32 h)

numbered_else : (l : List ℕ) (x : ℕ) (a : Answer) → (length l ≡ 32 → ⊥) → numbered_reply l x a ≡ (1, l)
unfolding numbered_reply
numbered_else l x a h = rw (ne_eqb (length l) 32 h)

numbered_whole :
    (l : List ℕ) (x : ℕ) (a : Answer) → length l ≡ 32 → numbered_reply l x a ≡ (x, numbered_bytes x a)
unfolding numbered_reply
numbered_whole l x a h = rw (eq-eqb (length l) 32 h)

number_first : (x : ℕ) (a : Answer) → set (bytes_of (Ok a)) 0 x ≡ numbered_bytes x a
unfolding bytes_of numbered_bytes
number_first x a = refl

replied :
    (l m : List ℕ) (r : ℕ) (a : Answer) →
    (r, m) ≡ reply l (Ok a) → r ≡ 0 → (length l ≡ 32) × (m ≡ bytes_of (Ok a))
replied l m r a e z =
    elim (dec_eq (length l) 32) [
      | yes q ↦ (q, ap (λ (p : ℕ × List ℕ). p.1) (e ∙ reply_whole l (Ok a) q))
      | no q ↦
          let o : r ≡ 1 = ap (λ (p : ℕ × List ℕ). p.0) (e ∙ reply_else l (Ok a) q) in
          absurd (omega arith)
    ]

pub numbered_other :
    (l m : List ℕ) (r x : ℕ) (a : Answer) → (r, m) ≡ reply l (Ok a) → (r ≡ 0 → ⊥) → (r, m) ≡ numbered_reply l x a
numbered_other l m r x a e h =
    elim (dec_eq (length l) 32) [
      | yes q ↦ absurd (h (ap (λ (p : ℕ × List ℕ). p.0) (e ∙ reply_whole l (Ok a) q)))
      | no q ↦ rw (numbered_else l x a q) (e ∙ reply_else l (Ok a) q)
    ]

pub numbered_length : (l m : List ℕ) (r : ℕ) (a : Answer) → (r, m) ≡ reply l (Ok a) → r ≡ 0 → 0 < length m
numbered_length l m r a e z = rw ((replied l m r a e z).1, bytes_length (Ok a)) (omega arith)

pub numbered_done :
    (l m : List ℕ) (r x : ℕ) (a : Answer) →
    (r, m) ≡ reply l (Ok a) → r ≡ 0 → (x, set m 0 x) ≡ numbered_reply l x a
numbered_done l m r x a e z =
    let w = replied l m r a e z in rw (numbered_whole l x a w.0, w.1, number_first x a)

pub ruleset numbered_rules = (numbered_other, numbered_length, numbered_done)
