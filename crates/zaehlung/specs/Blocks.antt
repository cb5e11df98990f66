-- Days in consecutive blocks, years or months, of which block k has `len k` days: one theory for both.
--   start len k  = how many days lie before block k
--   at len f k r = the block of the day r days after the first of block k, and the day in it, from 0 on; at most f
--                  blocks are passed
-- Source: the Gregorian calendar's years and months, of which document 01 takes 1996 to 2899.
use Rattle.std.specs.Prelude.{ℕ, zero, suc, ◌+◌, ◌-◌, true, false, ltb}

unfoldable pub start : (ℕ → ℕ) → ℕ → ℕ
start len zero = 0
start len (suc k) = start len k + len k

unfoldable pub at : (ℕ → ℕ) → ℕ → ℕ → ℕ → ℕ × ℕ
at len zero k r = (k, r)
at len (suc f) k r = elim (ltb r (len k)) [ true ↦ (k, r) | false ↦ at len f (suc k) (r - len k) ]
