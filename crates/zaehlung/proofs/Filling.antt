-- A list that is filled place by place, as a loop does.
--   Filled ys xs i   the first i places of xs hold what those of ys hold
--   fill_none        so it is before the first place
--   fill_more        and with one place more, if what is put there is what ys has
--   fill_all         with every place filled xs is ys
-- Assumes nothing.
use Prim.Native.Nat.{ℕ, ◌+◌, ◌≤◌, ◌<◌}
use mathlib.Core.List.{List}
use mathlib.Core.Path.{◌≡◌, refl, sym, ◌∙◌}
use native.Mathlib.Omega.{arith}
use native.Mathlib.Numerals.{add-one}
use lib.ListN.{length, get_or, take, set}
use lib.Seq.{take_all, take-suc, take-suc-set}

abbrev pub Filled : List ℕ → List ℕ → ℕ → Type 0
Filled ys xs i = take i xs ≡ take i ys

pub fill_none : (ys xs : List ℕ) → Filled ys xs 0
fill_none ys xs = refl

module _ (ys xs : List ℕ) (i : ℕ) (l : length xs ≡ length ys) (f : Filled ys xs i) where
  pub fill_more : (v : ℕ) → i < length ys → v ≡ get_or ys i 0 → Filled ys (set xs i v) (i + 1)
  fill_more v h e = rw (add-one, take-suc-set xs i v (omega arith), take-suc ys i 0 h, f, e)

  pub fill_all : length ys ≤ i → xs ≡ ys
  fill_all h = sym (take_all i xs (omega arith)) ∙ f ∙ take_all i ys h
