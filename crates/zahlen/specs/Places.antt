-- Numbers read from a place of a list of bytes, lowest byte first.
--   u16_at l i, u32_at l i = the number of the 2, 4 bytes of l that start at i, counted from 0
--   i64_at l i             = the signed number of the 8 bytes of l that start at i
-- Source: document 01, 'Host calls and their refusals': 'little-endian, no header'.
-- Assumes nothing.
use Rattle.std.specs.Prelude.{ℕ, ◌+◌, List, ℤ, get_or}
use Rattle.zahlen.specs.LittleEndian.{u16_from, u32_from, u64_from}
use Rattle.zahlen.specs.TwosComplement.{signed_of}

abbrev pub u16_at : List ℕ → ℕ → ℕ
u16_at l i = u16_from (get_or l i 0) (get_or l (i + 1) 0)

abbrev pub u32_at : List ℕ → ℕ → ℕ
u32_at l i = u32_from (get_or l i 0) (get_or l (i + 1) 0) (get_or l (i + 2) 0) (get_or l (i + 3) 0)

abbrev pub i64_at : List ℕ → ℕ → ℤ
i64_at l i = signed_of (u64_from (u32_at l i) (u32_at l (i + 4)))
