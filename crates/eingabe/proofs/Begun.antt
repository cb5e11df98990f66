-- What is read one after the other, as the bytes to come lose it: the head of a case, and its single byte.
--   one_byte   a list of one byte is that byte
--   begun      a head that was read whole is lost from the bytes to come
--   all_come   where nothing was lost and the input is at its end, it was there before
--   next_none  so there is no next case where nothing of its head came
--   filled_as  a place that is filled has what is expected's length in copies of one number
use Rattle.std.proofs.Common.{◌≡◌, ◌∙◌, ℕ, ◌<◌, List, [], ◌∷◌, length, get_or, take, replicate, Option, Some, None}
use Rattle.std.proofs.Common.{refl, sym, ap, subst, arith}
use lib.Seq.{take_all}
use Rattle.std.specs.Io.KnownBytes.{Consumes, IsAtEnd}

pub one_byte : (l : List ℕ) → length l ≡ 1 → l ≡ get_or l 0 0 ∷ []
one_byte [] h = absurd (omega arith)
one_byte (b ∷ []) h = refl
one_byte (b ∷ c ∷ l) h = absurd (omega arith)

pub begun :
    (old new : Option (List ℕ)) (h : List ℕ) (n : ℕ) → n ≡ length h → Consumes old new (take n h) → Consumes old new h
begun old new h n all head =
    let front : take n h ≡ h = take_all n h (omega arith) in
    subst (Consumes old new) front head

all_come : (old new : Option (List ℕ)) → Consumes old new [] → IsAtEnd new → IsAtEnd old
all_come None new h e = tt
all_come (Some xs) None h e = absurd h
all_come (Some xs) (Some ys) h e = h ∙ e

pub next_none :
    (old new : Option (List ℕ)) (h : List ℕ) (n : ℕ) → n ≡ 0 → Consumes old new (take n h) →
    (n < length h → IsAtEnd new) → 0 < length h → IsAtEnd old
next_none old new h n z c e l =
    let first : take n h ≡ [] = rw z refl in
    all_come old new (subst (Consumes old new) first c) (e (omega arith))

pub filled_as :
    (m e f : List ℕ) (n x : ℕ) → m ≡ replicate n x → n ≡ length f → length e ≡ length f → m ≡ replicate (length e) x
filled_as m e f n x i j k = i ∙ ap (λ n. replicate n x) (j ∙ sym k)
