-- Numbers as bytes, lowest byte first.
--   le2 x, le4 x, le8 x            = the 2, 4, 8 lowest bytes of the number x, lowest first
--   u16_from a b, u32_from a b c d = the number whose bytes, lowest first, these are
--   u64_from l h                   = the number whose lower four bytes are l and whose upper four are h
-- Source: document 01, 'Host calls and their refusals': 'little-endian, no header'.
-- Assumes nothing.
use Rattle.std.specs.Prelude.{ℕ, ◌+◌, ◌*◌, ◌/◌, ◌%◌, List, [], ◌∷◌}

abbrev pub le2 : ℕ → List ℕ
le2 x = x % 256 ∷ x / 256 % 256 ∷ []

abbrev pub le4 : ℕ → List ℕ
le4 x = x % 256 ∷ x / 256 % 256 ∷ x / 65536 % 256 ∷ x / 16777216 % 256 ∷ []

abbrev pub le8 : ℕ → List ℕ
le8 x =
    x % 256 ∷ x / 256 % 256 ∷ x / 65536 % 256 ∷ x / 16777216 % 256 ∷
    x / 4294967296 % 256 ∷ x / 1099511627776 % 256 ∷ x / 281474976710656 % 256 ∷ x / 72057594037927936 % 256 ∷ []

abbrev pub u16_from : ℕ → ℕ → ℕ
u16_from a b = a + 256 * b

abbrev pub u32_from : ℕ → ℕ → ℕ → ℕ → ℕ
u32_from a b c d = a + 256 * b + 65536 * c + 16777216 * d

abbrev pub u64_from : ℕ → ℕ → ℕ
u64_from l h = l + 4294967296 * h
