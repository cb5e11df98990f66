-- A table searched from its start on: laws for any list and any test of its elements.
--   any_more     the rest of a list, by its first element
--   search_hit   an element passes: the search ends with true
--   search_miss  it does not: the rest decides
--   search_none  nothing is left: the search ends with false
--   any_map      the elements that are made of a list's
--   any_append   two lists one after the other
-- Assumes nothing.
use Prim.Native.Nat.{ℕ, ◌+◌, ◌≤◌, ◌<◌}
use mathlib.Core.Bool.{Bool, true, false, ◌||◌}
use mathlib.Core.List.{List, [], ◌∷◌, ◌++◌, map}
use mathlib.Core.Path.{◌≡◌, refl, sym, ap, ◌∙◌}
use native.Mathlib.Numerals.{add-one}
use lib.ListN.{length, get_or, drop, drop_of_length-le}
use lib.Seq.{drop-cons}
use Rattle.zaehlung.specs.Lists.{any}

module _ {A : Type 0} (p : A → Bool) (l : List A) (z : A) (i : ℕ) where
  pub any_more : i < length l → any p (drop i l) ≡ (p (get_or l i z) || any p (drop (i + 1) l))
  unfolding any
  any_more h = rw (add-one, drop-cons l i z)

  module _ (e : any p (drop i l) ≡ any p l) where
    pub search_hit : i < length l → p (get_or l i z) ≡ true → true ≡ any p l
    search_hit h t = sym (ap (λ (b : Bool). b || any p (drop (i + 1) l)) t) ∙ sym (any_more h) ∙ e

    pub search_miss : i < length l → p (get_or l i z) ≡ false → any p (drop (i + 1) l) ≡ any p l
    search_miss h t = sym (ap (λ (b : Bool). b || any p (drop (i + 1) l)) t) ∙ sym (any_more h) ∙ e

    pub search_none : length l ≤ i → false ≡ any p l
    unfolding any
    search_none h = ap (any p) (sym (drop_of_length-le l h)) ∙ e

pub any_map : {A B : Type 0} (p : B → Bool) (f : A → B) (xs : List A) → any p (map f xs) ≡ any (λ x. p (f x)) xs
unfolding any
any_map p f [] = refl
any_map p f (x ∷ xs) = rw (any_map p f xs)

pub any_append : {A : Type 0} (p : A → Bool) (xs ys : List A) → any p (xs ++ ys) ≡ (any p xs || any p ys)
unfolding any
any_append p [] ys = refl
any_append p (x ∷ xs) ys = rw (any_append p xs ys) (or (p x) (any p xs) (any p ys))
  where
    or : (a b c : Bool) → (a || (b || c)) ≡ ((a || b) || c)
    or true b c = refl
    or false b c = refl
