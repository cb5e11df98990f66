-- A search of a table for the first of its entries whose test holds, the numbers of their reasons counting from n on:
--   reason_place  it gives the reason of that test's place
-- Assumes nothing.
use Prim.Native.Nat.{ℕ, ◌+◌}
use mathlib.Core.Bool.{Bool, true, false, ◌&&◌}
use mathlib.Core.List.{List, [], ◌∷◌, map}
use mathlib.Core.Path.{◌≡◌, refl, ap, ◌∙◌}
use lib.IntN.{ℤ}
use lib.ListN.{length}
use lib.Dec.{eqb}
use Rattle.std.specs.List.{find, range_with_len}
use Rattle.std.specs.Option.{MatchOption, IsSomeAnd, option_map, option_map_or}
use Rattle.std.specs.Prelude.{Option, Some, None}
use denote.Ref.{Bor}
use Rattle.werktag.specs.declared.feiertage.Reason.{Reason}
use Rattle.werktag.specs.Werktag.{eq_z}
use Rattle.werktag.specs.Reason.{reason_number, place_from}

-- what the tables are searched for
abbrev pub on_day : ℕ → ℕ → ℕ × ℕ × Reason → Bool
on_day m d x = eqb x.1 d && eqb x.0 m

abbrev pub at_distance : ℤ → ℤ × Reason → Bool
at_distance z x = eq_z z x.0

module _ {X : Type 0} (why : X → Reason) (test : X → Bool) where
  abbrev found : List X → Option Reason
  found xs = option_map why (find test xs)

  abbrev number : Option Reason → ℕ
  number o = option_map_or reason_number o 0

  found_place :
      (n : ℕ) (xs : List X) → map (λ x. reason_number (why x)) xs ≡ range_with_len n (length xs) →
      number (found xs) ≡ place_from n (map test xs)
  unfolding place_from
  found_place n [] e = refl
  found_place n (x ∷ xs) e = step (test x) refl (found_place (n + 1) xs cc)
    where
      step :
          (b : Bool) → test x ≡ b → number (found xs) ≡ place_from (n + 1) (map test xs) →
          number (found (x ∷ xs)) ≡ place_from n (map test (x ∷ xs))
      step true t q = rw t cc
      step false t q = rw t q

  -- o is the entry that was found, and r its reason
  pub reason_place :
      (n : ℕ) (xs : List X) (o : Option (Bor X)) (r : Option Reason) {P : Bor X → Reason → Type 0} →
      map (λ x. reason_number (why x)) xs ≡ range_with_len n (length xs) → option_map (λ y. y.now) o ≡ find test xs →
      MatchOption o (r ≡ None) (λ y. IsSomeAnd r (P y)) → ((y : Bor X) (w : Reason) → P y w → w ≡ why y.now) →
      number r ≡ place_from n (map test xs)
  reason_place n xs o r {P = P} e f m p = ap number (made o (find test xs) r f m) ∙ found_place n xs e
    where
      made :
          (o : Option (Bor X)) (l : Option X) (r : Option Reason) → option_map (λ y. y.now) o ≡ l →
          MatchOption o (r ≡ None) (λ y. IsSomeAnd r (P y)) → r ≡ option_map why l
      made None l r f m = rw (← f) m
      made (Some y) l None f m = absurd m
      made (Some y) l (Some w) f m = rw (← f) (ap Some (p y w m))
