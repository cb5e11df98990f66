-- Signed numbers as bits, two's complement, at the width whose lowest number is -h: h is 2^63 for 64 bits, 2^31 for 32.
--   bits_in h z            = the bits of the signed number z, as a natural number
--   signed_in h x          = the signed number whose bits are x
--   bits_of z, signed_of x = the same at 64 bits
--   word_of z              = the bits at 32 bits
-- Source: document 01, 'Host calls and their refusals': '8 to 15 seconds, signed'; document 02, F-6: 'a signed number'
-- in 'bytes 28 to 31'.
-- Assumes nothing.
use Rattle.std.specs.Prelude.{ℕ, suc, ◌+◌, ◌-◌, cond, ltb, ℤ, pos, negsuc}

-- `negsuc n` is -(n + 1), whose bits are 2h - (n + 1)
unfoldable pub bits_in : ℕ → ℤ → ℕ
bits_in h (pos n) = n
bits_in h (negsuc n) = h + h - suc n

unfoldable pub signed_in : ℕ → ℕ → ℤ
signed_in h x = cond (ltb x h) (pos x) (negsuc (h + h - 1 - x))

abbrev pub bits_of : ℤ → ℕ
bits_of = bits_in 9223372036854775808

abbrev pub word_of : ℤ → ℕ
word_of = bits_in 2147483648

abbrev pub signed_of : ℕ → ℤ
signed_of = signed_in 9223372036854775808
