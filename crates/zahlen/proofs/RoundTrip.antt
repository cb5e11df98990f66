-- Writing and reading undo each other.
--   number l        = the number whose bytes, lowest first, are the list l
--   le k x          = the k lowest bytes of x, lowest first; le2, le4, le8 are le 2, le 4, le 8: le2_is, le4_is, le8_is
--   Below l         = each number of the list l is below 256, as `All` says too: below_all, all_below
--   number_le       a number below 256^k is read back from its k bytes
--   le_number       and so are k bytes from their number
--   u16_back, u32_back, u64_back      what le2, le4, le8 write, u16_from, u32_from, u64_from read back
--   u16_bytes, u32_bytes, u64_bytes   and what these read, those write back
--   u16_placed, u32_placed, u64_placed   a number's bytes among others are read back from their place
--   i32_placed, i64_placed            so are a signed number's
--   from k i l      = the k elements of the list l from place i on, one by one, as reading takes them
--   u16_again, u32_again, u64_again, i32_again, i64_again   what is read at a place is written as what stands there
--   bits_signed     the bits of the signed number of x are x, at any width
--   signed_bits     and the signed number of z's bits is z
-- Assumes nothing.
use Prim.Native.Nat.{ℕ, zero, suc, ◌+◌, ◌-◌, ◌*◌, ◌/◌, ◌%◌, ◌^◌, ◌<◌, ◌≤◌}
use mathlib.Core.Path.{◌≡◌, refl, sym, ap, ◌∙◌}
use mathlib.Core.List.{List, [], ◌∷◌, ◌++◌}
use native.Mathlib.Omega.{arith}
use native.Mathlib.Decide.{dec_lt}
use native.Mathlib.Nat.{add-zero, add_assoc, div-div-eq-div-mul}
use lib.IntN.{ℤ, pos, negsuc}
use lib.ListN.{length, get_or, take, drop, length-drop}
use lib.Seq.{get_or-append_seam, get_or-append-add, drop-cons}
use lib.Signed.{mag}
use borrow.Author.Tests.{lt-ltb, le-ltb}
use Rattle.std.specs.Prelude.{All}
use Rattle.std.proofs.lemmas.List.{get_or-drop}
use Rattle.std.proofs.lemmas.List.Elements.{All-nil, All-cons, All-head, All-tail, All-drop}
use Rattle.zahlen.specs.LittleEndian.{le2, le4, le8, u16_from, u32_from, u64_from}
use Rattle.zahlen.specs.TwosComplement.{bits_in, signed_in, bits_of, word_of, signed_of}
use Rattle.zahlen.specs.Places.{u16_at, u32_at, i64_at}
use Rattle.zahlen.specs.ReadBack.{u64_at, i32_at}

abbrev pub number : List ℕ → ℕ
number [] = 0
number (b ∷ l) = b + 256 * number l

abbrev pub le : ℕ → ℕ → List ℕ
le zero x = []
le (suc k) x = x % 256 ∷ le k (x / 256)

pub data Below : List ℕ → Type 0 where
  none : Below []
  more : {x : ℕ} {l : List ℕ} → x < 256 → Below l → Below (x ∷ l)

pub below_append : {l m : List ℕ} → Below l → Below m → Below (l ++ m)
below_append none q = q
below_append (more p r) q = more p (below_append r q)

low : (x : ℕ) → x % 256 < 256
low x = omega arith

pub le_below : (k x : ℕ) → Below (le k x)
le_below zero x = none
le_below (suc k) x = more (low x) (le_below k (x / 256))

pub number_le : (k x : ℕ) → x < 256 ^ k → number (le k x) ≡ x
number_le zero x h = omega arith
number_le (suc k) x h = let e = number_le k (x / 256) (omega arith) in omega arith

pub le_number : {l : List ℕ} → Below l → le (length l) (number l) ≡ l
le_number none = refl
le_number (more {x} {l} p q) =
    let e : (x + 256 * number l) % 256 ≡ x = omega arith in
    let f : (x + 256 * number l) / 256 ≡ number l = omega arith in
    rw (e, f, le_number q)

-- a quotient's quotient is the quotient by the product
pub le2_is : (x : ℕ) → le2 x ≡ le 2 x
le2_is x = refl

pub le4_is : (x : ℕ) → le4 x ≡ le 4 x
le4_is x = simp div-div-eq-div-mul

pub le8_is : (x : ℕ) → le8 x ≡ le 8 x
le8_is x = simp div-div-eq-div-mul

u16_is : (a b : ℕ) → u16_from a b ≡ number (a ∷ b ∷ [])
u16_is a b = omega arith

u32_is : (a b c d : ℕ) → u32_from a b c d ≡ number (a ∷ b ∷ c ∷ d ∷ [])
u32_is a b c d = omega arith

u64_is :
    (a b c d e f g h : ℕ) →
    u64_from (u32_from a b c d) (u32_from e f g h) ≡ number (a ∷ b ∷ c ∷ d ∷ e ∷ f ∷ g ∷ h ∷ [])
u64_is a b c d e f g h = omega arith

pub u16_back : (x a b : ℕ) → x < 65536 → le2 x ≡ a ∷ b ∷ [] → u16_from a b ≡ x
u16_back x a b l p = u16_is a b ∙ sym (ap number p) ∙ number_le 2 x l

pub u32_back : (x a b c d : ℕ) → x < 4294967296 → le4 x ≡ a ∷ b ∷ c ∷ d ∷ [] → u32_from a b c d ≡ x
u32_back x a b c d l p = u32_is a b c d ∙ ap number (sym p ∙ le4_is x) ∙ number_le 4 x l

pub u64_back :
    (x a b c d e f g h : ℕ) → x < 18446744073709551616 → le8 x ≡ a ∷ b ∷ c ∷ d ∷ e ∷ f ∷ g ∷ h ∷ [] →
    u64_from (u32_from a b c d) (u32_from e f g h) ≡ x
u64_back x a b c d e f g h l p = u64_is a b c d e f g h ∙ ap number (sym p ∙ le8_is x) ∙ number_le 8 x l

pub u16_bytes : (a b : ℕ) → Below (a ∷ b ∷ []) → le2 (u16_from a b) ≡ a ∷ b ∷ []
u16_bytes a b p = ap (le 2) (u16_is a b) ∙ le_number p

pub u32_bytes : (a b c d : ℕ) → Below (a ∷ b ∷ c ∷ d ∷ []) → le4 (u32_from a b c d) ≡ a ∷ b ∷ c ∷ d ∷ []
u32_bytes a b c d p = le4_is (u32_from a b c d) ∙ ap (le 4) (u32_is a b c d) ∙ le_number p

pub u64_bytes :
    (a b c d e f g h : ℕ) → Below (a ∷ b ∷ c ∷ d ∷ e ∷ f ∷ g ∷ h ∷ []) →
    le8 (u64_from (u32_from a b c d) (u32_from e f g h)) ≡ a ∷ b ∷ c ∷ d ∷ e ∷ f ∷ g ∷ h ∷ []
u64_bytes a b c d e f g h p =
    le8_is (u64_from (u32_from a b c d) (u32_from e f g h)) ∙ ap (le 8) (u64_is a b c d e f g h) ∙ le_number p

module _ (a b : List ℕ) (x : ℕ) where
  pub u16_placed : x < 65536 → u16_at (a ++ (le2 x ++ b)) (length a) ≡ x
  u16_placed h = simp (get_or-append_seam, get_or-append-add) (u16_back x _ _ h refl)

  pub u32_placed : x < 4294967296 → u32_at (a ++ (le4 x ++ b)) (length a) ≡ x
  u32_placed h = simp (get_or-append_seam, get_or-append-add) (u32_back x _ _ _ _ h refl)

  pub u64_placed : x < 18446744073709551616 → u64_at (a ++ (le8 x ++ b)) (length a) ≡ x
  u64_placed h =
      let n = length a in
      simp (get_or-append_seam, get_or-append-add, add_assoc n 4 1, add_assoc n 4 2, add_assoc n 4 3)
      (u64_back x _ _ _ _ _ _ _ _ h refl)

pub bits_signed : (h x : ℕ) → x < h + h → bits_in h (signed_in h x) ≡ x
unfolding signed_in
bits_signed h x l =
    elim (dec_lt x h) [
      | yes q ↦ rw (lt-ltb x h q) (unfold bits_in in refl)
      | no q ↦ rw (le-ltb x h (omega arith)) (unfold bits_in in (omega arith))
    ]

-- `mag z` is z for a number from 0 on, and n for -(n + 1)
pub signed_bits : (h : ℕ) (z : ℤ) → mag z < h → signed_in h (bits_in h z) ≡ z
unfolding signed_in bits_in
signed_bits h (pos n) l = rw (lt-ltb n h l)
signed_bits h (negsuc n) l = rw (le-ltb (h + h - suc n) h (omega arith)) (ap negsuc (omega arith))

bits_below : (h : ℕ) (z : ℤ) → mag z < h → bits_in h z < h + h
unfolding bits_in
bits_below h (pos n) l = omega arith
bits_below h (negsuc n) l = omega arith

pub i32_placed :
    (a b : List ℕ) (z : ℤ) → mag z < 2147483648 → i32_at (a ++ (le4 (word_of z) ++ b)) (length a) ≡ z
i32_placed a b z h =
    ap (signed_in 2147483648) (u32_placed a b (word_of z) (bits_below 2147483648 z h)) ∙ signed_bits 2147483648 z h

pub i64_placed :
    (a b : List ℕ) (z : ℤ) → mag z < 9223372036854775808 → i64_at (a ++ (le8 (bits_of z) ++ b)) (length a) ≡ z
i64_placed a b z h =
    ap signed_of (u64_placed a b (bits_of z) (bits_below 9223372036854775808 z h))
    ∙ signed_bits 9223372036854775808 z h

abbrev pub from : ℕ → ℕ → List ℕ → List ℕ
from zero i l = []
from (suc k) i l = get_or l i 0 ∷ from k (suc i) l

pub from_is : (k i : ℕ) (l : List ℕ) → i + k ≤ length l → from k i l ≡ take k (drop i l)
from_is zero i l h = refl
from_is (suc k) i l h =
    ap (λ (r : List ℕ). get_or l i 0 ∷ r) (from_is k (suc i) l (omega arith))
    ∙ sym (ap (take (suc k)) (drop-cons l i 0 (omega arith)))

pub below_at : {l : List ℕ} → Below l → (i : ℕ) → get_or l i 0 < 256
below_at none i = omega arith
below_at (more h p) zero = h
below_at (more h p) (suc i) = below_at p i

pub below_from : {l : List ℕ} → Below l → (k i : ℕ) → Below (from k i l)
below_from p zero i = none
below_from p (suc k) i = more (below_at p i) (below_from p k (suc i))

pub below_all : {l : List ℕ} → Below l → All (λ b. b < 256) l
below_all none = All-nil (λ b. b < 256)
below_all (more {x} {l} h p) = All-cons (λ b. b < 256) x l h (below_all p)

pub all_below : (l : List ℕ) → All (λ b. b < 256) l → Below l
all_below [] p = none
all_below (x ∷ l) p = more (All-head (λ b. b < 256) x l p) (all_below l (All-tail (λ b. b < 256) x l p))

-- a place is the head of what stands from there on
module _ (l : List ℕ) (i : ℕ) (p : All (λ b. b < 256) l) where
  below : Below (drop i l)
  below = all_below (drop i l) (All-drop (λ b. b < 256) i l p)

  inside : (k : ℕ) → i + k ≤ length l → 0 + k ≤ length (drop i l)
  inside k h = omega (arith, length-drop i l)

  pub u16_again : i + 2 ≤ length l → le2 (u16_at l i) ≡ take 2 (drop i l)
  u16_again h =
      let e : u16_at l i ≡ u16_at (drop i l) 0 = simp (get_or-drop, add-zero) in
      ap le2 e ∙ u16_bytes _ _ (below_from below 2 0) ∙ from_is 2 0 (drop i l) (inside 2 h)

  u32_head : u32_at l i ≡ u32_at (drop i l) 0
  u32_head = simp (get_or-drop, add-zero)

  pub u32_again : i + 4 ≤ length l → le4 (u32_at l i) ≡ take 4 (drop i l)
  u32_again h =
      ap le4 u32_head ∙ u32_bytes _ _ _ _ (below_from below 4 0) ∙ from_is 4 0 (drop i l) (inside 4 h)

  u32_lt : u32_at l i < 4294967296
  u32_lt =
      rw u32_head
      (omega (arith, below_at below 0, below_at below 1, below_at below 2, below_at below 3))

  pub i32_again : i + 4 ≤ length l → le4 (word_of (i32_at l i)) ≡ take 4 (drop i l)
  i32_again h = ap le4 (bits_signed 2147483648 (u32_at l i) u32_lt) ∙ u32_again h

  u64_head : u64_at l i ≡ u64_at (drop i l) 0
  u64_head = simp (get_or-drop, add-zero, add_assoc i 4 1, add_assoc i 4 2, add_assoc i 4 3)

  pub u64_again : i + 8 ≤ length l → le8 (u64_at l i) ≡ take 8 (drop i l)
  u64_again h =
      ap le8 u64_head ∙ u64_bytes _ _ _ _ _ _ _ _ (below_from below 8 0) ∙ from_is 8 0 (drop i l) (inside 8 h)

  u64_lt : u64_at l i < 18446744073709551616
  u64_lt =
      rw u64_head
      (omega (
        arith,
        below_at below 0,
        below_at below 1,
        below_at below 2,
        below_at below 3,
        below_at below 4,
        below_at below 5,
        below_at below 6,
        below_at below 7,
      ))

  pub i64_again : i + 8 ≤ length l → le8 (bits_of (i64_at l i)) ≡ take 8 (drop i l)
  i64_again h = ap le8 (bits_signed 9223372036854775808 (u64_at l i) u64_lt) ∙ u64_again h
