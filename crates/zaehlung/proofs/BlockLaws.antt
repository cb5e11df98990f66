-- Laws of days in consecutive blocks, of which block k has `len k` days.
--   start_suc      start len (suc k) ≡ start len k + len k
--   start_mono     a later block starts no earlier
--   at_here        a day of block j lies in it
--   at_next        a day past block j lies as far past the start of the next as it lay past the end of this
--   at_is          the block of a day is the one in which it lies
--   at_sum         no day is lost, and the block is one of those allowed
--   at_below       the day lies in the block, if the blocks allowed hold it
--   starts len k v xs  = whether the list holds v, and then, each time, the number before it and what the next block
--                  from k on adds: one test of a whole table
--   starts_at      so each place of the table is the start of its block
-- Source: the definitions of Blocks.
-- Assumes nothing.
use Prim.Native.Nat.{ℕ, zero, suc, ◌+◌, ◌-◌, ◌≤◌, ◌<◌}
use mathlib.Core.Path.{◌≡◌, refl, sym, ap, ◌∙◌}
use native.Mathlib.Omega.{arith}
use native.Mathlib.Nat.{add-zero, add-suc}
use native.Mathlib.Decide.{dec_lt}
use mathlib.Core.Bool.{Bool, true, ◌&&◌}
use mathlib.Core.List.{List, [], ◌∷◌}
use lib.Dec.{eqb}
use lib.ListN.{length, get_or}
use borrow.Author.Tests.{eqb-true, lt-ltb, le-ltb}
use Rattle.zaehlung.specs.Blocks.{start, at}
use Rattle.zaehlung.proofs.Tests.{and_left, and_right}

module _ (len : ℕ → ℕ) where
  pub start_suc : (k : ℕ) → start len (suc k) ≡ start len k + len k
  unfolding start
  start_suc k = refl

  start_add : (k j : ℕ) → start len k ≤ start len (k + j)
  start_add k zero = rw add-zero (omega arith)
  start_add k (suc j) = rw add-suc (omega (arith, start_add k j, start_suc (k + j)))

  pub start_mono : (j k : ℕ) → j ≤ k → start len j ≤ start len k
  start_mono j k h = let e : j + (k - j) ≡ k = omega arith in rw e at (start_add j (k - j))

  pub at_here : (f j r : ℕ) → r < len j → at len f j r ≡ (j, r)
  unfolding at
  at_here zero j r h = refl
  at_here (suc f) j r h = rw (lt-ltb r (len j) h, at)

  pub at_next : (f j r : ℕ) → len j ≤ r → at len (suc f) j r ≡ at len f (suc j) (r - len j)
  unfolding at
  at_next f j r h = rw (le-ltb r (len j) h, at)

  at_same : (f j k r s : ℕ) → j ≡ k → start len j + r ≡ start len k + s → s < len k → at len f j r ≡ (k, s)
  at_same f j k r s q e b =
      let u : r ≡ s = omega (arith, ap (start len) q) in
      let v : r < len j = omega (arith, ap len q) in
      cc (at_here f j r v)

  pub at_is :
      (f j k r s : ℕ) → j ≤ k → k ≤ j + f → start len j + r ≡ start len k + s → s < len k → at len f j r ≡ (k, s)
  at_is zero j k r s h g e b = at_same zero j k r s (omega arith) e b
  at_is (suc f) j k r s h g e b =
      elim (dec_lt j k) [
        | yes l ↦
            let w : len j ≤ r = omega (arith, start_mono (suc j) k l, start_suc j) in
            at_next f j r w ∙ at_is f (suc j) k (r - len j) s l (omega arith) (omega (arith, start_suc j)) b
        | no l ↦ at_same (suc f) j k r s (omega arith) e b
      ]

  pub at_sum :
      (f j r : ℕ) →
      (start len (at len f j r).0 + (at len f j r).1 ≡ start len j + r) × (j ≤ (at len f j r).0) ×
      ((at len f j r).0 ≤ j + f)
  unfolding at
  at_sum zero j r = (refl, omega arith, omega arith)
  at_sum (suc f) j r =
      elim (dec_lt r (len j)) [
        | yes l ↦ rw (at_here (suc f) j r l) (refl, omega arith, omega arith)
        | no l ↦
            let i = at_sum f (suc j) (r - len j) in
            rw (at_next f j r (omega arith)) (omega (arith, start_suc j), omega arith, omega arith)
      ]

  pub at_below : (f j r : ℕ) → start len j + r < start len (suc (j + f)) → (at len f j r).1 < len (at len f j r).0
  unfolding at
  at_below zero j r h = let e = add-zero j in omega (arith, start_suc j, ap (λ (x : ℕ). start len (suc x)) e)
  at_below (suc f) j r h =
      elim (dec_lt r (len j)) [
        | yes l ↦ rw (at_here (suc f) j r l) l
        | no l ↦
            let e = ap (λ (x : ℕ). start len (suc x)) (add-suc j f) in
            let q : suc j + f ≡ suc (j + f) = omega arith in
            let e' = ap (λ (x : ℕ). start len (suc x)) q in
            rw (at_next f j r (omega arith)) (at_below f (suc j) (r - len j) (omega (arith, start_suc j)))
      ]

unfoldable pub starts : (ℕ → ℕ) → ℕ → ℕ → List ℕ → Bool
starts len k v [] = true
starts len k v (x ∷ xs) = eqb v x && starts len (suc k) (x + len k) xs

pub starts_at :
    (len : ℕ → ℕ) (xs : List ℕ) (k v : ℕ) → starts len k v xs ≡ true → v ≡ start len k →
    (i : ℕ) → i < length xs → get_or xs i 0 ≡ start len (k + i)
unfolding starts
starts_at len [] k v t e i h = absurd (omega arith)
starts_at len (x ∷ xs) k v t e zero h = rw add-zero (sym (eqb-true v x (and_left (eqb v x) _ t)) ∙ e)
starts_at len (x ∷ xs) k v t e (suc i) h =
    let p : k + suc i ≡ suc k + i = omega arith in
    let s : x + len k ≡ start len (suc k) = omega (arith, eqb-true v x (and_left (eqb v x) _ t), start_suc len k) in
    rw p (starts_at len xs (suc k) (x + len k) (and_right (eqb v x) _ t) s i (omega arith))
