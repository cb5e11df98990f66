-- std's comparison of two slices of bytes is that of the definition.
-- Assumes nothing.
use mathlib.Core.List.{List, [], ◌∷◌}
use mathlib.Core.Path.{◌≡◌, refl}
use Prim.Native.Nat.{ℕ}
use Rattle.std.specs.Prelude.{nat_eq}
use Rattle.std.specs.Cmp.Lexicographic.{pointwise}
use Rattle.vorlauf.specs.Abmeldung.{same_bytes}

pub bytes_same : (a b : List ℕ) → pointwise nat_eq a b ≡ same_bytes a b
unfolding same_bytes
bytes_same [] [] = refl
bytes_same [] (y ∷ ys) = refl
bytes_same (x ∷ xs) [] = refl
bytes_same (x ∷ xs) (y ∷ ys) = rw (bytes_same xs ys)
