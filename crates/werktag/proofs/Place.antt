-- The place of the first test that holds: laws for any list of tests, and any number that places are counted from.
--   place_hit    in a search, a test holds: it ends with the test's place
--   place_miss   it does not: the rest decides
--   place_none   nothing is left: it ends with 0
--   place_left, place_right  two lists one after the other: the second decides where the first has no place
--   place_zero   there is no place exactly if no test holds
--   place_least, place_most  no place lies before the first one, and none past the last
--   place_given, place_gives  a place is given exactly if its own test holds and no earlier one does
--   map_at       what is made of a list's elements, at a place
-- Assumes nothing.
use Prim.Native.Nat.{ℕ, zero, suc, ◌+◌, ◌≤◌, ◌<◌}
use mathlib.Core.Bool.{Bool, true, false, not}
use mathlib.Core.List.{List, [], ◌∷◌, ◌++◌, map}
use mathlib.Core.Path.{◌≡◌, refl, sym, ap, subst, ◌∙◌}
use native.Mathlib.Numerals.{add-one}
use native.Mathlib.Omega.{arith}
use lib.Dec.{T, eqb}
use lib.ListN.{length, get_or, drop, drop_of_length-le}
use lib.Seq.{drop-cons}
use borrow.Author.Tests.{ne_eqb}
use Rattle.zaehlung.specs.Lists.{any}
use Rattle.werktag.specs.Reason.{place_from}

module _ (bs : List Bool) (n i : ℕ) (e : place_from (n + i) (drop i bs) ≡ place_from n bs) where
  by_next : (b : Bool) → i < length bs → get_or bs i false ≡ b →
      place_from (n + i) (b ∷ drop (i + 1) bs) ≡ place_from n bs
  by_next b h t = sym (ap (place_from (n + i)) (rw (add-one, ← t) (drop-cons bs i false h))) ∙ e

  pub place_hit : i < length bs → get_or bs i false ≡ true → n + i ≡ place_from n bs
  unfolding place_from
  place_hit h t = by_next true h t

  pub place_miss : i < length bs → get_or bs i false ≡ false →
      place_from (n + (i + 1)) (drop (i + 1) bs) ≡ place_from n bs
  unfolding place_from
  place_miss h t = ap (λ (m : ℕ). place_from m (drop (i + 1) bs)) (omega arith) ∙ by_next false h t

  pub place_none : length bs ≤ i → 0 ≡ place_from n bs
  unfolding place_from
  place_none h = ap (place_from (n + i)) (sym (drop_of_length-le bs h)) ∙ e

pub place_left : (n : ℕ) (xs ys : List Bool) → (place_from n xs ≡ 0 → ⊥) → place_from n (xs ++ ys) ≡ place_from n xs
unfolding place_from
place_left n [] ys h = absurd (h refl)
place_left n (true ∷ xs) ys h = refl
place_left n (false ∷ xs) ys h = place_left (n + 1) xs ys h

pub place_right :
    (n : ℕ) (xs ys : List Bool) → 1 ≤ n → place_from n xs ≡ 0 → place_from n (xs ++ ys) ≡ place_from (n + length xs) ys
unfolding place_from
place_right n [] ys h e = ap (λ (m : ℕ). place_from m ys) (omega arith)
place_right n (true ∷ xs) ys h e = absurd (omega arith)
place_right n (false ∷ xs) ys h e =
    place_right (n + 1) xs ys (omega arith) e ∙ ap (λ (m : ℕ). place_from m ys) (omega arith)

pub place_zero : (n : ℕ) (bs : List Bool) → 1 ≤ n → eqb (place_from n bs) 0 ≡ not (any (λ b. b) bs)
unfolding place_from any
place_zero n [] h = refl
place_zero n (true ∷ bs) h = ne_eqb n 0 (λ e. omega arith)
place_zero n (false ∷ bs) h = place_zero (n + 1) bs (omega arith)

pub place_least : (n m : ℕ) (bs : List Bool) → place_from n bs ≡ m → 1 ≤ m → n ≤ m
unfolding place_from
place_least n m [] e h = absurd (omega arith)
place_least n m (true ∷ bs) e h = omega arith
place_least n m (false ∷ bs) e h = omega (arith, place_least (n + 1) m bs e h)

pub place_most : (n : ℕ) (bs : List Bool) → 1 ≤ n → place_from n bs < n + length bs
unfolding place_from
place_most n [] h = omega arith
place_most n (true ∷ bs) h = omega arith
place_most n (false ∷ bs) h = omega (arith, place_most (n + 1) bs (omega arith))

abbrev pub NoneBefore : List Bool → ℕ → Type 0
NoneBefore bs k = (j : ℕ) → j < k → get_or bs j false ≡ false

pub place_given :
    (n k : ℕ) (bs : List Bool) → 1 ≤ n → place_from n bs ≡ n + k → (get_or bs k false ≡ true) × NoneBefore bs k
unfolding place_from
place_given n k [] h e = absurd (omega arith)
place_given n zero (true ∷ bs) h e = (refl, λ j l. absurd (omega arith))
place_given n (suc k) (true ∷ bs) h e = absurd (omega arith)
place_given n zero (false ∷ bs) h e = absurd (omega (arith, place_least (n + 1) (n + 0) bs e (omega arith)))
place_given n (suc k) (false ∷ bs) h e =
    let g = place_given (n + 1) k bs (omega arith) (e ∙ omega arith) in
    (g.0, before g.1)
  where
    before : NoneBefore bs k → NoneBefore (false ∷ bs) (suc k)
    before f zero l = refl
    before f (suc j) l = f j (omega arith)

pub place_gives : (n k : ℕ) (bs : List Bool) → get_or bs k false ≡ true → NoneBefore bs k → place_from n bs ≡ n + k
unfolding place_from
place_gives n k [] t f = absurd (subst T (sym t) tt)
place_gives n zero (true ∷ bs) t f = omega arith
place_gives n (suc k) (true ∷ bs) t f = absurd (subst T (f 0 (omega arith)) tt)
place_gives n zero (false ∷ bs) t f = absurd (subst T (sym t) tt)
place_gives n (suc k) (false ∷ bs) t f =
    place_gives (n + 1) k bs t (λ j l. f (suc j) (omega arith)) ∙ omega arith

pub map_at :
    {A B : Type 0} (f : A → B) (xs : List A) (i : ℕ) (z : A) (y : B) → i < length xs →
    get_or (map f xs) i y ≡ f (get_or xs i z)
map_at f [] i z y h = absurd (omega arith)
map_at f (x ∷ xs) zero z y h = refl
map_at f (x ∷ xs) (suc i) z y h = map_at f xs i z y (omega arith)
