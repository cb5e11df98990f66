-- Steps and counts are one thing: the laws of stepping, for any test w of a day. A day that passes w is open; the
-- calendar's days are 0 to last, and d, t ≤ last where a law asks for it.
--   add_iff        add w d n ≡ Day e   exactly if  e is open, count w (suc e) ≡ count w (suc d) + n and e ≤ last; 1 ≤ n
--   sub_iff        sub w d n ≡ Day e   exactly if  e is open and count w e + n ≡ count w d; 1 ≤ n
--   next_iff       next w d ≡ Day e    exactly if  e is open, count w e ≡ count w d and e ≤ last
--   w_iff          W w t n ≡ Day e     exactly if  e is the day after an open one, count w e ≡ count w t + n and e ≤
--                  last; 1 ≤ n
--   add_out_iff    add w d n ≡ Outside exactly if  fewer than n open days come after d
--   sub_out_iff    sub w d n ≡ Outside exactly if  fewer than n come before d
--   next_out_iff   next w d ≡ Outside  exactly if  none comes on d or after it
--   w_out_iff      W w t n ≡ Outside   exactly if  fewer than n lie from t to the last day but one
--   add_add        add w d n ≡ add w e m, if as many open days lie up to their ends: 1 ≤ n, 1 ≤ m
--   sub_add        sub w d n ≡ add w e m, the same
--   w_add          W w t n is the day after add w e m, the same
--   add_none sub_none w_none                       for n = 0 the day itself, open or not
--   between_count  between w a b + count w (suc a) ≡ count w (suc b), if a ≤ b
--   between_later  between w a b ≡ 0, if b is not later than a
--   add_between    between w d e ≡ n, if add w d n ≡ Day e
--   add_inside sub_inside next_inside w_inside     a day that is reached is at most last
--   day_after_is    day_after d ≡ Day e  says  e ≡ suc d and e ≤ last
--   day_before_is   day_before d ≡ Day e  says  d ≡ suc e
--   on_step_day     on_step None s f ≡ Some e  says  s reached a day d, and f d ≡ Some e
-- Source: DESIGN, 'The one idea'; document 01, lib.rs and 'The span of anchors'; for add_between the remark on
-- `werktage_between` in lib.rs, 'the inverse of `add_werktage`'.
-- Assumes nothing.
use Prim.Native.Nat.{ℕ, zero, suc, ◌+◌, ◌-◌, ◌≤◌, ◌<◌}
use mathlib.Core.Bool.{Bool, true}
use mathlib.Core.Logic.{◌↔◌}
use mathlib.Core.Path.{◌≡◌, refl, sym, ap, ◌∙◌}
use native.Mathlib.Omega.{arith}
use native.Mathlib.Decide.{dec_lt}
use borrow.Author.Tests.{lt-ltb, le-ltb}
use Rattle.zaehlung.specs.Walk.{last, on_step, day_after, day_before, add, sub, next, W, between, among, count}
use Rattle.zaehlung.proofs.Turns.{up_none, past_none, down_none}
use Rattle.zaehlung.proofs.Count.{count_open, count_step, count_back, count_among}
use Rattle.zaehlung.proofs.Reach.{up_out, past_out, first_day_lem, first_out, down_out, add_day, sub_day, w_day}
use Rattle.std.specs.Prelude.{Option, Some, None}

module _ (w : ℕ → Bool) where
  pub add_iff :
      (d n e : ℕ) → d ≤ last → 1 ≤ n →
      (add w d n ≡ Some e) ↔ ((w e ≡ true) × (count w (suc e) ≡ count w (suc d) + n) × (e ≤ last))
  add_iff d n e h m = (
    λ p.
        let r = (add_day w d n e h).0 p in
        (r.is_open (omega (arith, count_back w (suc d) (suc e) (omega arith))), r.counted, r.within),
    λ r.
        let l = count_back w (suc d) (suc e) (omega arith) in
        (add_day w d n e h).1 (record { counted = r.1; after = omega arith; within = r.2; is_open = λ _. r.0 }),
  )

  pub sub_iff : (d n e : ℕ) → 1 ≤ n → (sub w d n ≡ Some e) ↔ ((w e ≡ true) × (count w e + n ≡ count w d))
  sub_iff d n e m = (
    λ p.
        let r = (sub_day w d n e).0 p in
        (r.is_open (count_back w e d (omega arith)), r.counted),
    λ r.
        let l = count_back w e d (omega arith) in
        (sub_day w d n e).1 (record { counted = r.1; before = omega arith; is_open = λ _. r.0 }),
  )

  pub next_iff : (d e : ℕ) → d ≤ last → (next w d ≡ Some e) ↔ ((w e ≡ true) × (count w e ≡ count w d) × (e ≤ last))
  unfolding next
  next_iff d e h = let q : d + (last - d) ≡ last = omega arith in rw q at (first_day_lem w (last - d) d e)

  pub w_iff :
      (t n e : ℕ) → t ≤ last → 1 ≤ n →
      (W w t n ≡ Some e) ↔ ((v : ℕ) × (e ≡ suc v) × (w v ≡ true) × (count w e ≡ count w t + n) × (e ≤ last))
  w_iff t n e h m = (
    λ p.
        let r = (w_day w t n e h).0 p in
        let l = count_back w t e (omega arith) in
        let s : e ≡ suc (e - 1) = omega arith in
        (e - 1, s, r.is_open (e - 1) (omega arith) s, r.counted, r.within),
    λ r.
        let l = count_back w t e (omega arith) in
        (w_day w t n e h).1
        (record {
          counted = r.3;
          after = omega arith;
          within = r.4;
          is_open = λ v _ g. let q : v ≡
              r.0 = omega arith in rw q r.2;
        }),
  )

  pub add_out_iff : (d n : ℕ) → d ≤ last → (add w d n ≡ None) ↔ (count w (suc last) < count w (suc d) + n)
  unfolding add
  add_out_iff d n h = let q : suc d + (last - d) ≡ suc last = omega arith in rw q at (up_out w (last - d) d n)

  pub sub_out_iff : (d n : ℕ) → (sub w d n ≡ None) ↔ (count w d < n)
  unfolding sub
  sub_out_iff d n = down_out w d n

  pub next_out_iff : (d : ℕ) → d ≤ last → (next w d ≡ None) ↔ (count w (suc last) < count w d + 1)
  unfolding next
  next_out_iff d h = let q : d + suc (last - d) ≡ suc last = omega arith in rw q at (first_out w (last - d) d)

  pub w_out_iff : (t n : ℕ) → t ≤ last → (W w t n ≡ None) ↔ (count w last < count w t + n)
  unfolding W
  w_out_iff t n h = let q : t + (last - t) ≡ last = omega arith in rw q at (past_out w (last - t) t n)

  pub add_none : (d : ℕ) → add w d 0 ≡ Some d
  unfolding add
  add_none d = up_none w (last - d) d

  pub sub_none : (d : ℕ) → sub w d 0 ≡ Some d
  unfolding sub
  sub_none d = down_none w d

  pub w_none : (t : ℕ) → W w t 0 ≡ Some t
  unfolding W
  w_none t = past_none w (last - t) t

  pub add_inside : (d n e : ℕ) → d ≤ last → add w d n ≡ Some e → e ≤ last
  add_inside d n e h p = ((add_day w d n e h).0 p).within

  pub sub_inside : (d n e : ℕ) → d ≤ last → sub w d n ≡ Some e → e ≤ last
  sub_inside d n e h p = omega (arith, ((sub_day w d n e).0 p).before)

  pub next_inside : (d e : ℕ) → d ≤ last → next w d ≡ Some e → e ≤ last
  next_inside d e h p = ((next_iff d e h).0 p).2

  pub w_inside : (t n e : ℕ) → t ≤ last → W w t n ≡ Some e → e ≤ last
  w_inside t n e h p = ((w_day w t n e h).0 p).within

  -- steps that end at the same open day, wherever they start
  module _ (e m : ℕ) (g : e ≤ last) (q : 1 ≤ m) where
    pub add_add : (d n : ℕ) → d ≤ last → 1 ≤ n → count w (suc d) + n ≡ count w (suc e) + m → add w d n ≡ add w e m
    add_add d n h p c = go (add w d n) refl
      where
        go : (s : Option ℕ) → add w d n ≡ s → add w d n ≡ add w e m
        go (Some x) r =
            let i = (add_iff d n x h p).0 r in
            r ∙ sym ((add_iff e m x g q).1 (i.0, omega arith, i.2))
        go None r = r ∙ sym ((add_out_iff e m g).1 (omega (arith, (add_out_iff d n h).0 r)))

    pub sub_add : (d n : ℕ) → d ≤ last → 1 ≤ n → count w (suc e) + m + n ≡ count w d + 1 → sub w d n ≡ add w e m
    sub_add d n h p c = go (sub w d n) refl
      where
        go : (s : Option ℕ) → sub w d n ≡ s → sub w d n ≡ add w e m
        go (Some x) r =
            let i = (sub_iff d n x p).0 r in
            let k = count_open w x i.0 in
            r ∙ sym ((add_iff e m x g q).1 (i.0, omega arith, sub_inside d n x h r))
        go None r = absurd (omega (arith, (sub_out_iff d n).0 r))

    pub w_add :
        (t n : ℕ) → t ≤ last → 1 ≤ n → count w t + n ≡ count w (suc e) + m →
        W w t n ≡ on_step None (add w e m) day_after
    unfolding day_after
    w_add t n h p c = go (add w e m) refl
      where
        go : (s : Option ℕ) → add w e m ≡ s → W w t n ≡ on_step None (add w e m) day_after
        go (Some x) r =
            let i = (add_iff e m x g q).0 r in
            let k = count_open w x i.0 in
            rw r
            (elim (dec_lt x last) [
              | yes l ↦ rw (lt-ltb x last l) ((w_iff t n (suc x) h p).1 (x, refl, i.0, omega arith, l))
              | no l ↦
                  let z : x ≡ last = omega arith in
                  let y = ap (count w) z in
                  rw (le-ltb x last (omega arith)) ((w_out_iff t n h).1 (omega arith))
            ])
        go None r =
            rw r ((w_out_iff t n h).1 (omega (arith, (add_out_iff e m g).0 r, count_step w last)))

  pub between_count : (a b : ℕ) → a ≤ b → between w a b + count w (suc a) ≡ count w (suc b)
  unfolding between
  between_count a b h = let q : suc a + (b - a) ≡ suc b = omega arith in rw q at (count_among w (suc a) (b - a))

  pub between_later : (a b : ℕ) → b ≤ a → between w a b ≡ 0
  unfolding between among
  between_later a b h = let q : b - a ≡ 0 = omega arith in rw q

  pub add_between : (d n e : ℕ) → d ≤ last → add w d n ≡ Some e → between w d e ≡ n
  add_between d n e h p =
      let r = (add_day w d n e h).0 p in
      omega (arith, between_count d e r.after)

pub day_after_is : (d e : ℕ) → day_after d ≡ Some e → (e ≡ suc d) × (e ≤ last)
unfolding day_after
day_after_is d e p =
    elim (dec_lt d last) [
      | yes h ↦ let q : e ≡ suc d = cc (rw (lt-ltb d last h) at p) in (q, omega arith)
      | no h ↦ let z : ◌≡◌ {A = ℕ} 0 1 = cc (rw (le-ltb d last (omega arith)) at p) in absurd (omega arith)
    ]

pub day_before_is : (d e : ℕ) → day_before d ≡ Some e → d ≡ suc e
day_before_is zero e p = let z : ◌≡◌ {A = ℕ} 0 1 = cc in absurd (omega arith)
day_before_is (suc d) e p = cc

pub on_step_day :
    {A : Type 0} (s : Option ℕ) (f : ℕ → Option A) (e : A) → on_step None s f ≡ Some e →
    (d : ℕ) × (s ≡ Some d) × (f d ≡ Some e)
on_step_day (Some d) f e p = (d, refl, p)
on_step_day None f e p = let z : ◌≡◌ {A = ℕ} 0 1 = cc in absurd (omega arith)
