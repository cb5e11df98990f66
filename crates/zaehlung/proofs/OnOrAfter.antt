-- Steps that begin on the day itself, by steps that begin after it: for any test w of a day.
--   next_open, next_shut   the first open day on or after t: t itself, or the first after it
--   w_open, w_shut         the day after the n-th open day on or after t: t is the first of them, or it is none
-- Source: the definitions of Walk.
-- Assumes nothing.
use Prim.Native.Nat.{ℕ, zero, suc, ◌-◌, ◌≤◌}
use mathlib.Core.Bool.{Bool, true, false}
use mathlib.Core.Path.{◌≡◌, refl, sym, ap, ◌∙◌}
use native.Mathlib.Omega.{arith}
use native.Mathlib.Decide.{dec_lt}
use borrow.Author.Tests.{lt-ltb, le-ltb}
use Rattle.zaehlung.specs.Walk.{last, on_step, day_after, up, first, add, next, W}
use Rattle.zaehlung.proofs.Turns.{up_none, up_edge, up_open, up_shut, past_none, past_edge, past_open}
use Rattle.zaehlung.proofs.Turns.{first_edge, first_open, first_shut}
use Rattle.zaehlung.proofs.Count.{count_open, count_shut}
use Rattle.zaehlung.proofs.Laws.{add_none, w_add}
use Rattle.std.specs.Prelude.{Option, Some, None}

module _ (w : ℕ → Bool) where
  pub next_open : (t : ℕ) → w t ≡ true → next w t ≡ Some t
  unfolding next
  next_open t h = first_open w (last - t) t h

  from_next : (k d : ℕ) → w d ≡ false → first w k d ≡ up w k d 1
  from_next zero d h = first_edge w d h ∙ sym (up_edge w d 0)
  from_next (suc k) d h = first_shut w k d h ∙ go (w (suc d)) refl (from_next k (suc d))
    where
      go :
          (b : Bool) → w (suc d) ≡ b → (w (suc d) ≡ false → first w k (suc d) ≡ up w k (suc d) 1) →
          first w k (suc d) ≡ up w (suc k) d 1
      go true q f = first_open w k (suc d) q ∙ sym (up_none w k (suc d)) ∙ sym (up_open w k d 0 q)
      go false q f = f q ∙ sym (up_shut w k d 0 q)

  pub next_shut : (t : ℕ) → w t ≡ false → next w t ≡ add w t 1
  unfolding next add
  next_shut t h = from_next (last - t) t h

  -- the day itself is the one that is asked for
  w_first : (t : ℕ) → t ≤ last → w t ≡ true → W w t 1 ≡ day_after t
  unfolding W day_after
  w_first t h o =
      elim (dec_lt t last) [
        | yes l ↦
            let k : last - t ≡ suc (last - suc t) = omega arith in
            rw (k, lt-ltb t last l) (past_open w (last - suc t) t 0 o ∙ past_none w (last - suc t) (suc t))
        | no l ↦
            let k : last - t ≡ 0 = omega arith in
            rw (k, le-ltb t last (omega arith)) (past_edge w t 0)
      ]

  pub w_open : (t n : ℕ) → t ≤ last → 1 ≤ n → w t ≡ true → W w t n ≡ on_step None (add w t (n - 1)) day_after
  w_open t n h m o =
      elim (dec_lt 1 n) [
        | yes l ↦ w_add w t (n - 1) h (omega arith) t n h m (omega (arith, count_open w t o))
        | no l ↦
            let e : n ≡ 1 = omega arith in
            let z : n - 1 ≡ 0 = omega arith in
            ap (W w t) e ∙ w_first t h o
            ∙ sym (ap (λ (x : Option ℕ). on_step None x day_after) (ap (add w t) z ∙ add_none w t))
      ]

  pub w_shut : (t n : ℕ) → t ≤ last → 1 ≤ n → w t ≡ false → W w t n ≡ on_step None (add w t n) day_after
  w_shut t n h m o = w_add w t n h m t n h m (omega (arith, count_shut w t o))
