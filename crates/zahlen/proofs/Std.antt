-- What std's conversions give, in the words of specs/.
--   le2_std, le4_std, le8_std : to_le_bytes writes le2, le4, le8
--   u16_std, u32_std, u64_std : from_le_bytes reads u16_from, u32_from, u64_from
--   bits_std, signed_std      : a cast keeps the bits, as bits_of and signed_of do; word_std : at 32 bits, word_of
--   i64_made                  : the eight bytes from a place on as a signed number, for `i64_at`
-- Assumes nothing.
use Prim.Native.Nat.{ℕ, ◌+◌, ◌<◌}
use mathlib.Core.Path.{◌≡◌, refl, ap, ◌∙◌}
use mathlib.Core.List.{List, [], ◌∷◌}
use native.Mathlib.Omega.{arith}
use native.Mathlib.Decide.{dec_lt}
use native.Mathlib.Nat.{add-zero, add_assoc}
use lib.IntN.{ℤ, pos, negsuc}
use lib.ListN.{get_or, take, drop}
use Rattle.std.proofs.lemmas.List.{get_or-take, get_or-drop}
use borrow.Author.Tests.{lt-ltb, le-ltb}
use mir.Syntax.{w16, w32, w64}
use mir.Val.{SFits, to_z, of_z}
use mir.Facts.{to_z-of_z}
use Rattle.std.specs.Int.{to_le_bytes, from_le_bytes}
use Rattle.zahlen.specs.LittleEndian.{le2, le4, le8, u16_from, u32_from, u64_from}
use Rattle.zahlen.specs.TwosComplement.{bits_in, signed_in, bits_of, word_of, signed_of}
use Rattle.zahlen.specs.Places.{i64_at}

pub le2_std : (x : ℕ) → to_le_bytes w16 x ≡ le2 x
le2_std x = refl

pub le4_std : (x : ℕ) → to_le_bytes w32 x ≡ le4 x
le4_std x = refl

pub le8_std : (x : ℕ) → to_le_bytes w64 x ≡ le8 x
le8_std x = refl

pub u16_std : (a b : ℕ) → from_le_bytes w16 (a ∷ b ∷ []) ≡ u16_from a b
u16_std a b = omega arith

pub u32_std : (a b c d : ℕ) → from_le_bytes w32 (a ∷ b ∷ c ∷ d ∷ []) ≡ u32_from a b c d
u32_std a b c d = omega arith

pub u64_std :
    (a b c d e f g h : ℕ) →
    from_le_bytes w64 (a ∷ b ∷ c ∷ d ∷ e ∷ f ∷ g ∷ h ∷ []) ≡ u64_from (u32_from a b c d) (u32_from e f g h)
u64_std a b c d e f g h = omega arith

pub bits_std : (z : ℤ) → of_z w64 z ≡ bits_of z
unfolding bits_in
bits_std (pos n) = refl
bits_std (negsuc n) = refl

pub word_std : (z : ℤ) → of_z w32 z ≡ word_of z
unfolding bits_in
word_std (pos n) = refl
word_std (negsuc n) = refl

pub signed_std : (x : ℕ) → to_z w64 x ≡ signed_of x
unfolding signed_in
signed_std x =
    elim (dec_lt x 9223372036854775808) [
      | yes q ↦ rw (lt-ltb x 9223372036854775808 q)
      | no q ↦ rw (le-ltb x 9223372036854775808 (omega arith)) (ap negsuc (omega arith))
    ]

pub i64_made :
    (l b : List ℕ) (i : ℕ) (z : ℤ) → b ≡ take 8 (drop i l) → z ≡ to_z w64 (from_le_bytes w64 b) → SFits w64 z →
    to_z w64 (of_z w64 z) ≡ i64_at l i
i64_made l b i z p e f =
    to_z-of_z f ∙ e ∙ signed_std _
    ∙ ap signed_of
    (rw p
    (simp (
      at 0 (omega arith),
      at 1 (omega arith),
      at 2 (omega arith),
      at 3 (omega arith),
      at 4 (omega arith),
      at 5 (omega arith),
      at 6 (omega arith),
      at 7 (omega arith),
      add-zero,
      add_assoc i 4 1,
      add_assoc i 4 2,
      add_assoc i 4 3,
    ) (omega arith)))
  where
    at : (k : ℕ) → k < 8 → get_or (take 8 (drop i l)) k 0 ≡ get_or l (i + k) 0
    at k h = get_or-take 8 (drop i l) k 0 h ∙ get_or-drop i l k 0
