-- The lists of a portfolio, place by place.
--   pairwise_length   f of each pair of two lists of one length: as many as one of them has
--   pairwise_at       and at place i f of what the two have there
--   openings_at       how many pairs from place i on open a run: whether that one does, and those behind it
--   openings_end      none, where no pair is left
-- Assumes nothing.
use Prim.Native.Nat.{ℕ, zero, suc, ◌+◌, ◌≤◌, ◌<◌}
use mathlib.Core.List.{List, [], ◌∷◌}
use mathlib.Core.Path.{◌≡◌, refl, ap, ◌∙◌}
use native.Mathlib.Omega.{arith}
use lib.ListN.{length, get_or, drop, drop_of_length-le}
use lib.Seq.{drop-cons}
use Rattle.zaehlung.specs.Walk.{bit}
use Rattle.portfolio.specs.Portfolio.{pairwise}
use Rattle.portfolio.specs.Runs.{opens, openings}

module _ (f : ℕ → ℕ → ℕ) where
  pub pairwise_length : (xs ys : List ℕ) → length ys ≡ length xs → length (pairwise f xs ys) ≡ length xs
  unfolding pairwise
  pairwise_length [] ys h = refl
  pairwise_length (x ∷ xs) [] h = absurd (omega arith)
  pairwise_length (x ∷ xs) (y ∷ ys) h = ap suc (pairwise_length xs ys (omega arith))

  pub pairwise_at :
      (xs ys : List ℕ) (i : ℕ) → length ys ≡ length xs → i < length xs →
      get_or (pairwise f xs ys) i 0 ≡ f (get_or xs i 0) (get_or ys i 0)
  unfolding pairwise
  pairwise_at [] ys i h g = absurd (omega arith)
  pairwise_at (x ∷ xs) [] i h g = absurd (omega arith)
  pairwise_at (x ∷ xs) (y ∷ ys) zero h g = refl
  pairwise_at (x ∷ xs) (y ∷ ys) (suc i) h g = pairwise_at xs ys i (omega arith) (omega arith)

module _ (y i : ℕ) (zs : List ℕ) where
  pub openings_at :
      i < length zs →
      openings y (drop i zs) ≡ bit (opens y (get_or zs i 0)) + openings (get_or zs i 0) (drop (i + 1) zs)
  unfolding openings
  openings_at h =
      ap (openings y) (drop-cons zs i 0 h)
      ∙ ap (λ (j : ℕ). bit (opens y (get_or zs i 0)) + openings (get_or zs i 0) (drop j zs)) (one i)
    where
      one : (i : ℕ) → suc i ≡ i + 1
      one i = omega arith

  pub openings_end : length zs ≤ i → openings y (drop i zs) ≡ 0
  unfolding openings
  openings_end h = ap (openings y) (drop_of_length-le zs h)
