-- What steps say of spans, for any test w of a day. A day that passes w is open; t, a ≤ last where a law asks for it.
--   before_iff     t ≤ sub(a, n)  exactly if  W(t, n) ≤ a
--   after_iff      t ≤ add(a, n)  exactly if  sub(t, n) ≤ a
--   add_mono       add(d, n) ≤ add(e, n), if d ≤ e
--   sub_fewer      sub(a, n) ≤ sub(a, m), if m ≤ n
--   tag_iff        t < sub(a, 1)  exactly if  add(t, 1) < a
--   w_add_iff      W(t, n) is add(t, n)  exactly if  n is 0, or t and W(t, n) are open
--   back_iff       t ≤ sub(y, n)  exactly if  t is open, for y = add(t, n) and 1 ≤ n
--   back_out       where sub(y, n) leaves the calendar, t is not open
-- Source: document 01, 'The span of anchors'; DESIGN, 'The one idea': each is arithmetic on counts.
-- Assumes nothing.
use Prim.Native.Nat.{ℕ, suc, ◌+◌, ◌-◌, ◌≤◌, ◌<◌}
use mathlib.Core.Bool.{Bool, true, false}
use mathlib.Core.Logic.{◌↔◌, ◌⊎◌, inl, inr}
use mathlib.Core.Path.{◌≡◌, refl, ap}
use native.Mathlib.Omega.{arith}
use native.Mathlib.Decide.{dec_le, dec_lt}
use Rattle.zaehlung.specs.Walk.{last, add, sub, W, count}
use Rattle.zaehlung.proofs.Count.{count_open, count_shut, count_step, count_mono, count_back, count_same}
use Rattle.zaehlung.proofs.Reach.{Past, Up, Down, add_day, sub_day, w_day}
use Rattle.zaehlung.proofs.Laws.{sub_out_iff, add_none, w_none}
use Rattle.std.specs.Prelude.{Some, None}

-- two days, by their order
order : {A : Type 0} (a b : ℕ) → (a ≤ b → A) → (b < a → A) → A
order a b f g = elim (dec_le a b) [ yes y ↦ f y | no y ↦ g (omega arith) ]

module _ (w : ℕ → Bool) where
  pub before_iff : (t a n e f : ℕ) → t ≤ last → sub w a n ≡ Some e → W w t n ≡ Some f → (t ≤ e) ↔ (f ≤ a)
  before_iff t a n e f h p q = (to, from)
    where
      d : Down w a n e
      d = (sub_day w a n e).0 p

      r : Past w last t n f
      r = (w_day w t n f h).0 q

      -- else a lies before f: the day before f is open, and a has too few before it
      to : t ≤ e → f ≤ a
      to m =
          order f a (λ y. y) (λ y.
          let v : ℕ = f - 1 in
          let s : f ≡ suc v = omega arith in
          let o = count_open w v (r.is_open v (omega (arith, d.before)) s) in
          let c = ap (count w) s in
          absurd (omega (arith, d.counted, r.counted, count_mono w t e m, count_mono w a v (omega arith))))

      -- else e lies before t
      from : f ≤ a → t ≤ e
      from m =
          order t e (λ y. y) (λ y.
          let o = count_open w e (d.is_open (omega (arith, r.after))) in
          absurd (omega (arith, d.counted, r.counted, count_mono w f a m, count_mono w (suc e) t y)))

  pub after_iff : (t a n e f : ℕ) → a ≤ last → add w a n ≡ Some e → sub w t n ≡ Some f → (t ≤ e) ↔ (f ≤ a)
  after_iff t a n e f h p q = (to, from)
    where
      r : Up w last a n e
      r = (add_day w a n e h).0 p

      d : Down w t n f
      d = (sub_day w t n f).0 q

      to : t ≤ e → f ≤ a
      to m =
          order f a (λ y. y) (λ y.
          let o = count_open w e (r.is_open (omega (arith, d.before))) in
          absurd (omega (arith, d.counted, r.counted, count_mono w t e m, count_mono w (suc a) f y)))

      from : f ≤ a → t ≤ e
      from m =
          order t e (λ y. y) (λ y.
          let o = count_open w f (d.is_open (omega (arith, r.after))) in
          absurd (omega (
            arith,
            d.counted,
            r.counted,
            count_mono w (suc f) (suc a) (omega arith),
            count_mono w (suc e) t y,
          )))

  pub add_mono : (d e n x y : ℕ) → e ≤ last → d ≤ e → add w d n ≡ Some x → add w e n ≡ Some y → x ≤ y
  add_mono d e n x y h m p q =
      let r = (add_day w d n x (omega arith)).0 p in
      let u = (add_day w e n y h).0 q in
      order x y (λ z. z) (λ z.
      let o = count_open w x (r.is_open (omega (arith, u.after))) in
      let m = count_mono w (suc d) (suc e) (omega arith) in
      absurd (omega (arith, r.counted, u.counted, count_mono w (suc y) x z)))

  pub sub_fewer : (a m n x y : ℕ) → m ≤ n → sub w a m ≡ Some x → sub w a n ≡ Some y → y ≤ x
  sub_fewer a m n x y h p q =
      let r = (sub_day w a m x).0 p in
      let u = (sub_day w a n y).0 q in
      order y x (λ z. z) (λ z.
      let o = count_open w x (r.is_open (omega (arith, u.before))) in
      absurd (omega (arith, r.counted, u.counted, count_mono w (suc x) y z)))

  -- a day that n steps reach is open, n at least 1
  up_open : (t n y : ℕ) → 1 ≤ n → Up w last t n y → (t < y) × (w y ≡ true)
  up_open t n y m r =
      let l : t < y = omega (arith, count_back w (suc t) (suc y) (omega (arith, r.counted))) in
      (l, r.is_open l)

  down_open : (a n e : ℕ) → 1 ≤ n → Down w a n e → (e < a) × (w e ≡ true)
  down_open a n e m d =
      let l : e < a = count_back w e a (omega (arith, d.counted)) in
      (l, d.is_open l)

  pub tag_iff : (t a e f : ℕ) → t ≤ last → sub w a 1 ≡ Some e → add w t 1 ≡ Some f → (t < e) ↔ (f < a)
  tag_iff t a e f h p q =
      let d = (sub_day w a 1 e).0 p in
      let r = (add_day w t 1 f h).0 q in
      let x = count_open w e (down_open a 1 e (omega arith) d).1 in
      let y = count_open w f (up_open t 1 f (omega arith) r).1 in (
        λ m. count_back w f a (omega (arith, d.counted, r.counted, count_mono w (suc t) e m)),
        λ m. omega (
          arith,
          count_back w (suc t) (suc e)
              (omega (arith, d.counted, r.counted, count_mono w (suc f) a m)),
        ),
      )

  -- a day that adds one to the count is open
  adds_open : (t : ℕ) → count w (suc t) ≡ count w t + 1 → w t ≡ true
  adds_open t q = go (w t) refl
    where
      go : (b : Bool) → w t ≡ b → w t ≡ true
      go true o = o
      go false o = absurd (omega (arith, count_shut w t o))

  pub w_add_iff :
      (t n f y : ℕ) → t ≤ last → W w t n ≡ Some f → add w t n ≡ Some y →
      (f ≡ y) ↔ ((n ≡ 0) ⊎ ((w t ≡ true) × (w f ≡ true)))
  w_add_iff t n f y h p q = (to, from)
    where
      r : Past w last t n f
      r = (w_day w t n f h).0 p

      u : Up w last t n y
      u = (add_day w t n y h).0 q

      -- y is open, so f is, and the count of t's day is the difference of the two walks
      to : f ≡ y → (n ≡ 0) ⊎ ((w t ≡ true) × (w f ≡ true))
      to e =
          order n 0 (λ z. inl (omega arith)) (λ m.
          let o : w f ≡ true = rw e (up_open t n y m u).1 in
          let c = ap (λ (x : ℕ). count w (suc x)) e in
          inr (adds_open t (omega (arith, r.counted, u.counted, count_open w f o)), o))

      from : (n ≡ 0) ⊎ ((w t ≡ true) × (w f ≡ true)) → f ≡ y
      from (inl z) = let s = w_none w t in let v = add_none w t in cc
      from (inr o) =
          let b : w y ≡ true = elim (dec_lt t y) [
            | yes l ↦ u.is_open l
            | no l ↦ let e : y ≡
                t = omega (arith, u.after) in rw e o.0
          ] in
          count_same w f y o.1 b
          (omega (arith, r.counted, u.counted, count_open w t o.0, count_open w f o.1, count_open w y b))

  pub back_iff : (t n y e : ℕ) → t ≤ last → 1 ≤ n → add w t n ≡ Some y → sub w y n ≡ Some e → (t ≤ e) ↔ (w t ≡ true)
  back_iff t n y e h m p q =
      let u = (add_day w t n y h).0 p in
      let d = (sub_day w y n e).0 q in
      let o = (down_open y n e m d).1 in
      let c = count_open w y (up_open t n y m u).1 in (
        λ l. adds_open t (omega (arith, u.counted, d.counted, count_mono w t e l, count_step w t)),
        λ b.
            let s : t ≡ e = count_same w t e b o (omega (arith, u.counted, d.counted, count_open w t b)) in
            omega arith,
      )

  pub back_out : (t n y : ℕ) → t ≤ last → 1 ≤ n → add w t n ≡ Some y → sub w y n ≡ None → w t ≡ true → ⊥
  back_out t n y h m p q b =
      let u = (add_day w t n y h).0 p in
      let c = count_open w y (up_open t n y m u).1 in
      omega (arith, u.counted, (sub_out_iff w y n).0 q, count_open w t b)
