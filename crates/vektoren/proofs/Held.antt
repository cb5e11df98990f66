-- A line that is being read.
--   IsHeld old now line n = n bytes were read since the bytes to come were old: none is a line end, and the line's room
--                           begins with them, if they fit
--   held_rules            = none is read yet; one byte more is; the line ends; the input ends
use Rattle.std.proofs.Common.{◌≡◌, ◌≢◌, ◌∙◌, ℕ, suc, ◌+◌, ◌<◌, ◌≤◌, List, [], ◌∷◌, ◌++◌, length, set, take}
use Rattle.std.proofs.Common.{Option, Some, None, IsTrue, ◌↔◌, Bool, true, false, if◌then◌else◌, refl, sym, ap, subst}
use Rattle.std.proofs.Common.{arith, add-one, zero, length-append, length-set, append-nil}
use lib.Seq.{take-suc-set, take_all}
use Rattle.std.proofs.lemmas.List.Elements.{All-append}
use Rattle.std.specs.Io.KnownBytes.{Consumes, IsAtEnd}
use Rattle.std.proofs.KnownBytes.{Consumes-nil, Consumes-trans}
use Rattle.wiedergabe.specs.declared.Replayed.TheVariants.{Equal, Different, Unreadable}
use Rattle.vektoren.specs.Line.{IsEqualLine}
use Rattle.vektoren.specs.Input.{IsUnended, ReplaysLine}
use Rattle.vektoren.proofs.Blocks.{all_come}

pub record IsHeld (old now : Option (List ℕ)) (line : List ℕ) (n : ℕ) : Type 0 where
  pub bytes : List ℕ
  pub sized : length bytes ≡ n
  pub unended : IsUnended bytes
  pub taken : Consumes old now bytes
  pub placed : length line ≡ 193
  pub kept : n ≤ 193 → take n line ≡ bytes

empty : (l : List ℕ) → length l ≡ 0 → l ≡ []
empty [] h = refl
empty (b ∷ l) h = absurd (omega arith)

none_unended : IsUnended []
none_unended k d h = absurd (omega arith)

one_unended : (b : ℕ) → b ≢ 10 → IsUnended (b ∷ [])
one_unended b h zero d k = h
one_unended b h (suc n) d k = absurd (omega arith)

pub held_begin : {now : Option (List ℕ)} {line : List ℕ} → length line ≡ 193 → IsHeld now now line 0
held_begin {now} {line} e = record {
  bytes = [];
  sized = refl;
  unended = none_unended;
  taken = Consumes-nil now;
  placed = e;
  kept = λ _. refl;
}

module _ {old now : Option (List ℕ)} {line : List ℕ} {n : ℕ} (before : IsHeld old now line n) where
  line_is : n ≡ 193 → line ≡ before.bytes
  line_is e =
      let p = before.placed in
      let k = before.kept (omega arith) in
      sym (take_all n line (omega arith)) ∙ k

  module _ (next : Option (List ℕ)) where
    more :
        (b : ℕ) → Consumes now next (b ∷ []) → b ≢ 10 → (line' : List ℕ) → length line' ≡ 193 →
        (n + 1 ≤ 193 → take (n + 1) line' ≡ take n line ++ b ∷ []) → IsHeld old next line' (n + 1)
    more b step other line' e k = record {
      bytes = before.bytes ++ b ∷ [];
      sized = let s = before.sized in let a = length-append before.bytes (b ∷ []) in omega arith;
      unended = All-append (λ x. x ≢ 10) before.bytes (b ∷ []) before.unended (one_unended b other);
      taken = Consumes-trans old now next before.bytes (b ∷ []) before.taken step;
      placed = e;
      kept = λ h. k h ∙ ap (λ l. l ++ b ∷ []) (before.kept (omega arith));
    }

    pub held_more : (b : ℕ) → Consumes now next (b ∷ []) → b ≢ 10 → n < 193 → IsHeld old next (set line n b) (n + 1)
    held_more b step other h =
        let p = before.placed in
        let inside : n < length line = omega arith in
        more b step other (set line n b) (length-set line n b ∙ p)
        (λ _. rw (add-one n) (take-suc-set line n b inside))

    pub held_over : (b : ℕ) → Consumes now next (b ∷ []) → b ≢ 10 → 193 ≤ n → IsHeld old next line (n + 1)
    held_over b step other h = more b step other line before.placed (λ k. absurd (omega arith))

    ends : (b : ℕ) → Consumes now next (b ∷ []) → b ≡ 10 → Consumes old next (before.bytes ++ 10 ∷ [])
    ends b step e =
        Consumes-trans old now next before.bytes (10 ∷ []) before.taken (subst (λ b. Consumes now next (b ∷ [])) e step)

    pub held_line :
        (b : ℕ) → Consumes now next (b ∷ []) → b ≡ 10 → (equal : Bool) →
        (IsTrue equal ↔ ((n ≡ 193) × IsEqualLine line)) →
        ReplaysLine old next (Some (if equal then Equal else Different))
    held_line b step e true h = (
      before.bytes,
      before.unended,
      ends b step e,
      let both = h.0 refl in subst IsEqualLine (line_is both.0) both.1,
    )
    held_line b step e false h = (
      before.bytes,
      before.unended,
      ends b step e,
      λ q.
          let sized = q.sized in
          let s = before.sized in
          let long : n ≡ 193 = omega arith in
          let no : false ≡ true = h.1 (long, subst IsEqualLine (sym (line_is long)) q) in
          cc,
    )

    pub held_end : Consumes now next [] → IsAtEnd next → ReplaysLine old next (Some Unreadable)
    held_end step e = (
      before.bytes,
      before.unended,
      subst (Consumes old next) (append-nil before.bytes)
          (Consumes-trans old now next before.bytes [] before.taken step),
      λ _. e,
    )

    pub held_none : Consumes now next [] → IsAtEnd next → n ≡ 0 → ReplaysLine old next None
    held_none step e z =
        let s = before.sized in
        let none = empty before.bytes (omega arith) in
        let t = subst (Consumes old now) none before.taken in
        all_come old next (Consumes-trans old now next [] [] t step) e

pub ruleset held_rules = (held_begin, held_more, held_over, held_line, held_end, held_none)
