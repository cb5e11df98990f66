-- Months earlier and M(n, t) over any blocks of days, of which block k has `len k` days. Days in a block count from 0,
-- so a block's last day is `len k - 1`. Day d of block t is a transmission day, day e of block a an anchor.
--   back_day a e n  = the day n blocks before day e of block a; a day that the block lacks becomes its last
--   kept           block t + n has day d: t is by the day n blocks before a  exactly if  day d of block t + n is by a
--   cut            it lacks it: t is by that day  exactly if  the first of block t + n + 1 is by a
-- Source: BGB §188; document 01, 'The span of anchors': M(m, d).
-- Assumes nothing.
use Prim.Native.Nat.{ℕ, suc, ◌+◌, ◌-◌, ◌≤◌, ◌<◌, min}
use mathlib.Core.Logic.{◌↔◌}
use mathlib.Core.Path.{◌≡◌, ap}
use native.Mathlib.Omega.{arith}
use native.Mathlib.Decide.{dec_lt}
use Rattle.zaehlung.specs.Blocks.{start}
use Rattle.zaehlung.proofs.BlockLaws.{start_suc, start_mono}

module _ (len : ℕ → ℕ) where
  abbrev pub back_day : ℕ → ℕ → ℕ → ℕ
  back_day a e n = start len (a - n) + min e (len (a - n) - 1)

  -- an earlier block: an earlier day
  earlier : (j k r s : ℕ) → r < len j → j < k → start len j + r < start len k + s
  earlier j k r s h l = omega (arith, start_suc len j, start_mono len (suc j) k l)

  module _ (t d a e n : ℕ) (hd : d < len t) (he : e < len a) (hn : n ≤ a) (hp : 0 < len (a - n)) where
    -- t + n is a later block than a: t is after the day n blocks before
    late : a < t + n → back_day a e n < start len t + d
    late l = earlier (a - n) t (min e (len (a - n) - 1)) d (omega arith) (omega arith)

    -- an earlier one: t is before it
    early : t + n < a → start len t + d < back_day a e n
    early l = earlier t (a - n) d (min e (len (a - n) - 1)) hd (omega arith)

    -- the same: the days decide, and a day that block t has is not cut
    level :
        t + n ≡ a →
        (start len t ≡ start len (a - n)) × (len t ≡ len (a - n)) × (start len (t + n) ≡ start len a) ×
        (len (t + n) ≡ len a)
    level q =
        let u : t ≡ a - n = omega arith in
        (ap (start len) u, ap len u, ap (start len) q, ap len q)

    cases : {A : Type 0} → (t + n < a → A) → (t + n ≡ a → A) → (a < t + n → A) → A
    cases f g h =
        elim (dec_lt (t + n) a)
        [ yes l ↦ f l | no l ↦ elim (dec_lt a (t + n)) [ yes m ↦ h m | no m ↦ g (omega arith) ] ]

    pub kept : d < len (t + n) → (start len t + d ≤ back_day a e n) ↔ (start len (t + n) + d ≤ start len a + e)
    kept h = (
      λ p. cases (λ l. omega (arith, earlier (t + n) a d e h l)) (λ q. omega (arith, level q))
          (λ m. absurd (omega (arith, late m))),
      λ p. cases (λ l. omega (arith, early l)) (λ q. omega (arith, level q))
          (λ m. absurd (omega (arith, earlier a (t + n) e d he m))),
    )

    pub cut : len (t + n) ≤ d → (start len t + d ≤ back_day a e n) ↔ (start len (suc (t + n)) ≤ start len a + e)
    cut h = (
      λ p.
          cases
          (λ l. omega (arith, start_mono len (suc (t + n)) a l))
          (λ q. absurd (omega (arith, level q)))
          (λ m. absurd (omega (arith, late m))),
      λ p.
          cases
          (λ l. omega (arith, early l))
          (λ q. absurd (omega (arith, level q, start_suc len (t + n))))
          (λ m. absurd (omega (arith, earlier a (suc (t + n)) e 0 he (omega arith)))),
    )
