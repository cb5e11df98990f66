-- Hexadecimal text.
--   digit b        = the value of the lower-case hexadecimal digit with the ASCII code b; None where b is none
--   byte_at l i    = the byte whose two digits stand at i of the text l; None where one of them is no digit
--   bytes_at l i k = the k bytes whose digits start at i of the text l; None where one of them is no digit
-- Assumes nothing.
use Rattle.std.specs.Prelude.{ℕ, zero, suc, ◌+◌, ◌-◌, ◌*◌, cond, List, [], ◌∷◌, leb, ltb, get_or, Option, Some, None}
use Rattle.std.specs.Option.{option_map, option_and_then}

-- '0' is 48, '9' 57, 'a' 97, 'f' 102
unfoldable pub digit : ℕ → Option ℕ
digit b =
    cond (ltb b 48) None
    (cond (leb b 57) (Some (b - 48)) (cond (ltb b 97) None (cond (leb b 102) (Some (b - 97 + 10)) None)))

unfoldable pub byte_at : List ℕ → ℕ → Option ℕ
byte_at l i = option_and_then (λ h. option_map (λ n. h * 16 + n) (digit (get_or l (i + 1) 0))) (digit (get_or l i 0))

unfoldable pub bytes_at : List ℕ → ℕ → ℕ → Option (List ℕ)
bytes_at l i zero = Some []
bytes_at l i (suc k) = option_and_then (λ b. option_map (λ bs. b ∷ bs) (bytes_at l (i + 2) k)) (byte_at l i)
