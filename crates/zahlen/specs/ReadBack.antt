-- Numbers written as bytes, lowest byte first, and read again: nothing is lost on either way.
--   u64_at bytes at         = the number of the 8 bytes that start at a place, counted from 0
--   i32_at bytes at         = the signed number of the 4 bytes that start there
-- A number that fits its bytes is read back from where they stand, whatever stands before and behind them:
--   TwoBytesReadBack, FourBytesReadBack, EightBytesReadBack   at 2, 4 and 8 bytes
--   SignedFourReadBack, SignedEightReadBack                   a signed one at 4 and 8 bytes
-- The number that is read at a place is written as the bytes that stand there:
--   TwoBytesWrittenBack, FourBytesWrittenBack, EightBytesWrittenBack   at 2, 4 and 8 bytes
--   SignedFourWrittenBack, SignedEightWrittenBack                      a signed one at 4 and 8 bytes
-- In two's complement of any width, whose numbers are those from -half to half - 1:
--   BitsOfSigned   bits below half + half are read as a signed number that has these bits
--   SignedOfBits   the bits of such a signed number are read as that number; `mag` is the number itself from 0 on, and
--                  n for -(n + 1)
use Rattle.std.specs.Prelude.{ℕ, ◌+◌, ◌<◌, ◌≤◌, ◌≡◌, List, ◌++◌, length, take, drop, All, ℤ, FitsSigned}
use Rattle.std.specs.Int.{w32, w64}
use Rattle.std.specs.Int.Signed.{mag}
use Rattle.zahlen.specs.LittleEndian.{le2, le4, le8, u64_from}
use Rattle.zahlen.specs.TwosComplement.{bits_in, signed_in, bits_of, word_of}
use Rattle.zahlen.specs.Places.{u16_at, u32_at, i64_at}

abbrev pub u64_at : List ℕ → ℕ → ℕ
u64_at bytes at = u64_from (u32_at bytes at) (u32_at bytes (at + 4))

abbrev pub i32_at : List ℕ → ℕ → ℤ
i32_at bytes at = signed_in 2147483648 (u32_at bytes at)

abbrev pub TwoBytesReadBack : Type 0
TwoBytesReadBack =
    (before after : List ℕ) (number : ℕ) → number < 65536 →
    u16_at (before ++ (le2 number ++ after)) (length before) ≡ number

abbrev pub FourBytesReadBack : Type 0
FourBytesReadBack =
    (before after : List ℕ) (number : ℕ) → number < 4294967296 →
    u32_at (before ++ (le4 number ++ after)) (length before) ≡ number

abbrev pub EightBytesReadBack : Type 0
EightBytesReadBack =
    (before after : List ℕ) (number : ℕ) → number < 18446744073709551616 →
    u64_at (before ++ (le8 number ++ after)) (length before) ≡ number

abbrev pub SignedFourReadBack : Type 0
SignedFourReadBack =
    (before after : List ℕ) (number : ℤ) → FitsSigned w32 number →
    i32_at (before ++ (le4 (word_of number) ++ after)) (length before) ≡ number

abbrev pub SignedEightReadBack : Type 0
SignedEightReadBack =
    (before after : List ℕ) (number : ℤ) → FitsSigned w64 number →
    i64_at (before ++ (le8 (bits_of number) ++ after)) (length before) ≡ number

abbrev pub TwoBytesWrittenBack : Type 0
TwoBytesWrittenBack =
    (bytes : List ℕ) (at : ℕ) → All (λ byte. byte < 256) bytes → at + 2 ≤ length bytes →
    le2 (u16_at bytes at) ≡ take 2 (drop at bytes)

abbrev pub FourBytesWrittenBack : Type 0
FourBytesWrittenBack =
    (bytes : List ℕ) (at : ℕ) → All (λ byte. byte < 256) bytes → at + 4 ≤ length bytes →
    le4 (u32_at bytes at) ≡ take 4 (drop at bytes)

abbrev pub EightBytesWrittenBack : Type 0
EightBytesWrittenBack =
    (bytes : List ℕ) (at : ℕ) → All (λ byte. byte < 256) bytes → at + 8 ≤ length bytes →
    le8 (u64_at bytes at) ≡ take 8 (drop at bytes)

abbrev pub SignedFourWrittenBack : Type 0
SignedFourWrittenBack =
    (bytes : List ℕ) (at : ℕ) → All (λ byte. byte < 256) bytes → at + 4 ≤ length bytes →
    le4 (word_of (i32_at bytes at)) ≡ take 4 (drop at bytes)

abbrev pub SignedEightWrittenBack : Type 0
SignedEightWrittenBack =
    (bytes : List ℕ) (at : ℕ) → All (λ byte. byte < 256) bytes → at + 8 ≤ length bytes →
    le8 (bits_of (i64_at bytes at)) ≡ take 8 (drop at bytes)

abbrev pub BitsOfSigned : Type 0
BitsOfSigned = (half bits : ℕ) → bits < half + half → bits_in half (signed_in half bits) ≡ bits

abbrev pub SignedOfBits : Type 0
SignedOfBits = (half : ℕ) (number : ℤ) → mag number < half → signed_in half (bits_in half number) ≡ number
