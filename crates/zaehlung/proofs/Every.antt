-- A test of a run of numbers, which antt computes, and what it says of each: one law for any test.
--   run p n r   = whether p holds at the n numbers from r on
--   run_at      so it holds at each of them
--   split       a test is true or false, and it is known which
--   more        p holds below a, and at the n numbers from a on: it holds below a + n
-- Assumes nothing.
use Prim.Native.Nat.{ℕ, zero, suc, ◌+◌, ◌≤◌, ◌<◌}
use mathlib.Core.Bool.{Bool, true, false}
use mathlib.Core.Path.{◌≡◌, refl, sym, ◌∙◌, subst}
use native.Mathlib.Omega.{arith}
use native.Mathlib.Decide.{dec_lt}
use lib.Dec.{T}

unfoldable pub run : (ℕ → Bool) → ℕ → ℕ → Bool
run p zero r = true
run p (suc n) r = elim (p r) [ true ↦ run p n (suc r) | false ↦ false ]

pub split : {A : Type 0} (b : Bool) → (b ≡ true → A) → (b ≡ false → A) → A
split true f g = f refl
split false f g = g refl

run_yes : (p : ℕ → Bool) (n r : ℕ) → p r ≡ true → run p (suc n) r ≡ run p n (suc r)
unfolding run
run_yes p n r h = rw (h, run)

run_no : (p : ℕ → Bool) (n r : ℕ) → p r ≡ false → run p (suc n) r ≡ false
unfolding run
run_no p n r h = rw (h, run)

pub run_at : (p : ℕ → Bool) (n r : ℕ) → run p n r ≡ true → (x : ℕ) → r ≤ x → x < r + n → p x ≡ true
run_at p zero r t x h g = absurd (omega arith)
run_at p (suc n) r t x h g =
    split (p r)
    (λ e. elim (dec_lt r x) [
      | yes l ↦ run_at p n (suc r) (sym (run_yes p n r e) ∙ t) x l (omega arith)
      | no l ↦ let q : x ≡ r = omega arith in rw q e
    ])
    (λ e. absurd (subst T (sym t ∙ run_no p n r e) tt))

-- n more numbers
pub more :
    (p : ℕ → Bool) (a n : ℕ) → ((k : ℕ) → k < a → p k ≡ true) → run p n a ≡ true → (k : ℕ) → k < a + n → p k ≡ true
more p a n f t k h = elim (dec_lt k a) [ yes l ↦ f k l | no l ↦ run_at p n a t k (omega arith) h ]
