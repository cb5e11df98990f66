-- An input that was read whole, and one that is too long.
--   whole_rules = what was written for the bytes that were read was written for the input; for one that is too long
--                 nothing is to be written; two parts of places are as long
use Rattle.std.proofs.Common.{◌≡◌, ◌∙◌, ℕ, ◌-◌, ◌%◌, ◌<◌, ◌≤◌, List, [], ◌++◌, length, take, slice_range}
use Rattle.std.proofs.Common.{Option, Some, None, IfSome, Bool, true, false, ◌&&◌, refl, sym, ap, subst, arith}
use Rattle.std.proofs.Common.{length-append, length-take-le, append-nil, leb, eqb, nat_eq, cond, if◌then◌else◌, ◌≢◌}
use Rattle.std.proofs.lemmas.Bool.Decides.{nat_tests}
use Rattle.std.specs.Io.KnownBytes.{Consumes, Appends, IsAtEnd}
use Rattle.std.proofs.KnownBytes.{Appends-nil}
use Rattle.werktag.specs.declared.HolidayCalendar.TheVariants.{BdewMaKo}
use Rattle.werktag.specs.Werktag.{is_werktag}
use Rattle.fragesatz.specs.File.{is_file, questions_of}
use Rattle.antworten_frage.specs.Fragen.{answers_to, questions_reply}
use Rattle.fragen.specs.Output.{output_for}

past : (n : ℕ) → 65536 < n → leb n 65536 ≡ false
past n h = grind (arith, nat_tests)

no_file : (n m : ℕ) → 65536 < n → is_file n m ≡ false
unfolding is_file
no_file n m h = rw (past n h) (elim (eqb (n % 32) 0) as (λ b. (b && false) ≡ false) [ true ↦ refl | false ↦ refl ])

no_output : (l : List ℕ) → 65536 < length l → output_for l ≡ []
unfolding output_for questions_reply
no_output l h = rw (no_file (length l) (length l) h) refl

pub too_long :
    (a b w : Option (List ℕ)) (buf : List ℕ) (n : ℕ) → 65536 < n → n ≤ length buf → Consumes a b (take n buf) →
    IfSome a (λ known. Appends w w (output_for known))
too_long None b w buf n h k p = tt
too_long (Some xs) None w buf n h k p = absurd p
too_long (Some xs) (Some ys) w buf n h k p =
    let long = ap length p ∙ length-append (take n buf) ys in
    let front = length-take-le n buf k in
    let none : output_for xs ≡ [] = no_output xs (omega arith) in
    subst (λ l. Appends w w l) (sym none) (Appends-nil w)

pub whole :
    (a b w v : Option (List ℕ)) (l : List ℕ) → Consumes a b l → IsAtEnd b → Appends w v (output_for l) →
    IfSome a (λ known. Appends w v (output_for known))
whole None b w v l p e q = tt
whole (Some xs) None w v l p e q = absurd p
whole (Some xs) (Some ys) w v l p e q =
    let same : xs ≡ l = p ∙ ap (λ ys. l ++ ys) e ∙ append-nil l in
    subst (λ l. Appends w v (output_for l)) (sym same) q

pub same_part :
    (xs ys : List ℕ) (n : ℕ) → n ≤ length xs → length ys ≡ length xs →
    length (slice_range ys 0 n) ≡ length (slice_range xs 0 n)
same_part xs ys n h k =
    let all : n - 0 ≡ n = omega arith in
    let within : n ≤ length ys = omega arith in
    rw (all, length-take-le n xs h, length-take-le n ys within) refl

-- what the reply p has to be written
abbrev to_write : ℕ × List ℕ → List ℕ
to_write p = if nat_eq p.0 0 then p.1 else []

-- what stood in the place of the answers does not matter
afresh :
    (b : Bool) (answers l m : List ℕ) (p : ℕ × List ℕ) → p ≡ cond b (0, answers) (9, m) → p.0 ≡ 0 →
    p.1 ≡ to_write (cond b (0, answers) (9, l))
afresh true answers l m p e z = ap (λ p. p.1) e
afresh false answers l m p e z = let nine : p.0 ≡ 9 = ap (λ p. p.0) e in absurd (omega arith)

nothing :
    (b : Bool) (answers l m : List ℕ) (p : ℕ × List ℕ) → p ≡ cond b (0, answers) (9, m) → p.0 ≢ 0 →
    [] ≡ to_write (cond b (0, answers) (9, l))
nothing true answers l m p e z = absurd (z (ap (λ p. p.0) e))
nothing false answers l m p e z = refl

module _ (l m : List ℕ) (p : ℕ × List ℕ) (h : length m ≡ length l)
    (e : p ≡ questions_reply (is_werktag BdewMaKo) l m) where
  reply_is : p ≡ cond (is_file (length l) (length l)) (0, answers_to (is_werktag BdewMaKo) (questions_of l)) (9, m)
  unfolding questions_reply
  reply_is =
      subst (λ k. p ≡ cond (is_file (length l) k) (0, answers_to (is_werktag BdewMaKo) (questions_of l)) (9, m)) h e

  pub all_written : p.0 ≡ 0 → p.1 ≡ output_for l
  unfolding output_for questions_reply
  all_written z =
      afresh (is_file (length l) (length l)) (answers_to (is_werktag BdewMaKo) (questions_of l)) l m p reply_is z

  pub none_written : p.0 ≢ 0 → [] ≡ output_for l
  unfolding output_for questions_reply
  none_written z =
      nothing (is_file (length l) (length l)) (answers_to (is_werktag BdewMaKo) (questions_of l)) l m p reply_is z

pub ruleset whole_rules = (too_long, whole, same_part)
