-- Division that rounds down, of a number of any sign by a positive one.
--   floor_div z d = the quotient
--   floor_mod z d = the remainder, from 0 to d - 1
-- Source: document 01, 'Forms to use in the code' (instants, month shifts downward).
use Rattle.std.specs.Prelude.{ℕ, ◌-◌, ◌/◌, ◌%◌, ℤ, pos, negsuc}

-- `negsuc a` is -(a + 1)
unfoldable pub floor_div : ℤ → ℕ → ℤ
floor_div (pos a) d = pos (a / d)
floor_div (negsuc a) d = negsuc (a / d)

unfoldable pub floor_mod : ℤ → ℕ → ℤ
floor_mod (pos a) d = pos (a % d)
floor_mod (negsuc a) d = pos (d - 1 - a % d)
