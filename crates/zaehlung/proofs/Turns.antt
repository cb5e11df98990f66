-- One turn of each walk of Walk, as an equation, for any test w of a day.
--   up_none    past_none    down_none                 no open day is asked for: the walk has reached its day
--   up_edge    past_edge    down_edge    first_edge   no day is left: Outside
--   up_open    past_open    down_open    first_open   the day tested is open: one fewer is asked for
--   up_shut    past_shut    down_shut    first_shut   it is not: as many are asked for
-- Source: the clauses of Walk.
-- Assumes nothing.
use Prim.Native.Nat.{ℕ, zero, suc}
use mathlib.Core.Bool.{Bool, true, false}
use mathlib.Core.Path.{◌≡◌, refl}
use Rattle.zaehlung.specs.Walk.{up, past, down, first}
use Rattle.std.specs.Prelude.{Some, None}

module _ (w : ℕ → Bool) where
  pub up_none : (k d : ℕ) → up w k d 0 ≡ Some d
  unfolding up
  up_none zero d = refl
  up_none (suc k) d = refl

  pub up_edge : (d n : ℕ) → up w 0 d (suc n) ≡ None
  unfolding up
  up_edge d n = refl

  pub up_open : (k d n : ℕ) → w (suc d) ≡ true → up w (suc k) d (suc n) ≡ up w k (suc d) n
  unfolding up
  up_open k d n h = rw (h, up)

  pub up_shut : (k d n : ℕ) → w (suc d) ≡ false → up w (suc k) d (suc n) ≡ up w k (suc d) (suc n)
  unfolding up
  up_shut k d n h = rw (h, up)

  pub past_none : (k d : ℕ) → past w k d 0 ≡ Some d
  unfolding past
  past_none zero d = refl
  past_none (suc k) d = refl

  pub past_edge : (d n : ℕ) → past w 0 d (suc n) ≡ None
  unfolding past
  past_edge d n = refl

  pub past_open : (k d n : ℕ) → w d ≡ true → past w (suc k) d (suc n) ≡ past w k (suc d) n
  unfolding past
  past_open k d n h = rw (h, past)

  pub past_shut : (k d n : ℕ) → w d ≡ false → past w (suc k) d (suc n) ≡ past w k (suc d) (suc n)
  unfolding past
  past_shut k d n h = rw (h, past)

  pub down_none : (d : ℕ) → down w d 0 ≡ Some d
  unfolding down
  down_none zero = refl
  down_none (suc d) = refl

  pub down_edge : (n : ℕ) → down w 0 (suc n) ≡ None
  unfolding down
  down_edge n = refl

  pub down_open : (d n : ℕ) → w d ≡ true → down w (suc d) (suc n) ≡ down w d n
  unfolding down
  down_open d n h = rw (h, down)

  pub down_shut : (d n : ℕ) → w d ≡ false → down w (suc d) (suc n) ≡ down w d (suc n)
  unfolding down
  down_shut d n h = rw (h, down)

  pub first_edge : (d : ℕ) → w d ≡ false → first w 0 d ≡ None
  unfolding first
  first_edge d h = rw (h, first)

  pub first_open : (k d : ℕ) → w d ≡ true → first w k d ≡ Some d
  unfolding first
  first_open zero d h = rw (h, first)
  first_open (suc k) d h = rw (h, first)

  pub first_shut : (k d : ℕ) → w d ≡ false → first w (suc k) d ≡ first w k (suc d)
  unfolding first
  first_shut k d h = rw (h, first)
