-- Lists of things that are tested.
--   any p xs     = whether p holds of some element of xs
--   strike p x   = the test p of a day, with the day x struck out
--   strikes p xs = the same with each day of xs struck out
--   each p xs n  = how many places of xs hold a day before n that passes p
--   below xs n   = how many hold a day before n
-- Assumes nothing.
use Rattle.std.specs.Prelude.{ℕ, ◌+◌, Bool, false, not, ◌&&◌, ◌||◌, List, [], ◌∷◌, eqb, ltb}
use Rattle.zaehlung.specs.Walk.{bit}

unfoldable pub any : {A : Type 0} → (A → Bool) → List A → Bool
any p [] = false
any p (x ∷ xs) = p x || any p xs

abbrev pub strike : (ℕ → Bool) → ℕ → ℕ → Bool
strike p x r = p r && not (eqb r x)

unfoldable pub strikes : (ℕ → Bool) → List ℕ → ℕ → Bool
strikes p [] = p
strikes p (x ∷ xs) = strikes (strike p x) xs

unfoldable pub each : (ℕ → Bool) → List ℕ → ℕ → ℕ
each p [] n = 0
each p (x ∷ xs) n = bit (ltb x n && p x) + each p xs n

unfoldable pub below : List ℕ → ℕ → ℕ
below [] n = 0
below (x ∷ xs) n = bit (ltb x n) + below xs n
