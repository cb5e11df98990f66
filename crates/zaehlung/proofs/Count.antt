-- Laws of the prefix count, for any test w of a day. count w d = how many days before d are open, that is, pass w.
--   bit_small      a test counts at most 1
--   count_none     count w 0 ≡ 0
--   count_suc      count w (suc d) ≡ count w d + bit (w d)
--   count_open     an open day adds one
--   count_shut     any other adds none
--   count_step     a day adds none or one
--   count_le       no more before a day than days
--   count_mono     no fewer before a later day
--   count_back     fewer before it: an earlier day
--   count_at       an open day with no fewer before it than before b is b or later
--   count_same     two open days with as many before them are one
--   count_among    among w d k + count w d ≡ count w (d + k): the days from d on make the difference
--   count_shift    count w (s + n) ≡ count w s + count (λ r. w (s + r)) n: the days from s on, counted from s
--   count_cong     tests that agree before n count the same before n
-- Source: the definition of count in Walk.
-- Assumes nothing.
use Prim.Native.Nat.{ℕ, zero, suc, ◌+◌, ◌-◌, ◌≤◌, ◌<◌}
use mathlib.Core.Bool.{Bool, true, false}
use mathlib.Core.Path.{◌≡◌, refl, ap, ◌∙◌}
use native.Mathlib.Omega.{arith}
use native.Mathlib.Nat.{add-zero, add-suc}
use native.Mathlib.Decide.{dec_le, dec_lt}
use Rattle.zaehlung.specs.Walk.{bit, among, count}

pub bit_small : (b : Bool) → bit b ≤ 1
bit_small true = omega arith
bit_small false = omega arith

module _ (w : ℕ → Bool) where
  pub count_none : count w 0 ≡ 0
  unfolding count
  count_none = refl

  pub count_suc : (d : ℕ) → count w (suc d) ≡ count w d + bit (w d)
  unfolding count
  count_suc d = refl

  pub count_open : (d : ℕ) → w d ≡ true → count w (suc d) ≡ count w d + 1
  count_open d h = count_suc d ∙ ap (λ (b : Bool). count w d + bit b) h

  pub count_shut : (d : ℕ) → w d ≡ false → count w (suc d) ≡ count w d
  count_shut d h = let e = ap bit h in omega (arith, count_suc d)

  pub count_step : (d : ℕ) → (count w d ≤ count w (suc d)) × (count w (suc d) ≤ count w d + 1)
  count_step d = omega (arith, count_suc d, bit_small (w d))

  pub count_le : (d : ℕ) → count w d ≤ d
  count_le zero = omega (arith, count_none)
  count_le (suc d) = omega (arith, count_le d, count_step d)

  count_add : (d k : ℕ) → count w d ≤ count w (d + k)
  count_add d zero = rw add-zero (omega arith)
  count_add d (suc k) = rw add-suc (omega (arith, count_add d k, count_step (d + k)))

  pub count_mono : (a b : ℕ) → a ≤ b → count w a ≤ count w b
  count_mono a b h = let e : a + (b - a) ≡ b = omega arith in rw e at (count_add a (b - a))

  pub count_back : (a b : ℕ) → count w a < count w b → a < b
  count_back a b h = elim (dec_lt a b) [ yes p ↦ p | no q ↦ absurd (omega (arith, count_mono b a (omega arith))) ]

  pub count_at : (e b : ℕ) → w e ≡ true → count w b ≤ count w e → b ≤ e
  count_at e b h p =
      elim (dec_le b e) [
        | yes q ↦ q
        | no q ↦ absurd (omega (
          arith,
          count_mono (suc e) b (omega arith),
          count_open e h,
        ))
      ]

  pub count_same : (d e : ℕ) → w d ≡ true → w e ≡ true → count w d ≡ count w e → d ≡ e
  count_same d e hd he q = omega (arith, count_at e d he (omega arith), count_at d e hd (omega arith))

  pub count_among : (d k : ℕ) → among w d k + count w d ≡ count w (d + k)
  unfolding among
  count_among d zero = rw add-zero (omega arith)
  count_among d (suc k) =
      let e : d + suc k ≡ suc d + k = omega arith in
      rw e (omega (arith, count_among (suc d) k, count_suc d))

pub count_shift : (w : ℕ → Bool) (s n : ℕ) → count w (s + n) ≡ count w s + count (λ r. w (s + r)) n
count_shift w s zero = rw add-zero (omega (arith, count_none (λ r. w (s + r))))
count_shift w s (suc n) =
    rw add-suc (omega (arith, count_shift w s n, count_suc w (s + n), count_suc (λ r. w (s + r)) n))

pub count_cong : (p q : ℕ → Bool) (n : ℕ) → ((r : ℕ) → r < n → p r ≡ q r) → count p n ≡ count q n
count_cong p q zero f = omega (arith, count_none p, count_none q)
count_cong p q (suc n) f =
    let e = ap bit (f n (omega arith)) in
    omega (arith, count_cong p q n (λ r h. f r (omega arith)), count_suc p n, count_suc q n)
