-- What the walks reach, said by counts, for any test w of a day. A day that passes w is open.
--   Past w m d n e  e is the day reached from d, at most m, when n open days, d perhaps among them, lie behind
--   Up w m d n e    e is the n-th open day after d, at most m; d itself for n = 0
--   Down w d n e    e is the n-th open day before d; d itself for n = 0
-- Each is a record of facts that one e alone has. `is_open` asks whether the walk has moved, so n = 0 is no case apart.
--   past_day        past w k d n ≡ Day e   exactly if  Past w (d + k) d n e
--   up_day          up w k d n ≡ Day e     exactly if  Up w (d + k) d n e
--   down_day        down w d n ≡ Day e     exactly if  Down w d n e
--   first_day_lem       first w k d ≡ Day e    exactly if  e is open, count w e ≡ count w d and e ≤ d + k
--   past_out up_out down_out first_out     Outside     exactly if  too few open days are left
--   add_day         add w d n ≡ Day e      exactly if  Up w last d n e, if d ≤ last
--   sub_day         sub w d n ≡ Day e      exactly if  Down w d n e
--   w_day           W w t n ≡ Day e        exactly if  Past w last t n e, if t ≤ last
-- `.0` of such a law is what an outcome says, `.1` what shows an outcome. next and Outside are in Laws.
-- Source: DESIGN, 'The one idea'.
-- Assumes nothing.
use Prim.Native.Nat.{ℕ, zero, suc, ◌+◌, ◌-◌, ◌≤◌, ◌<◌}
use mathlib.Core.Bool.{Bool, true, false}
use mathlib.Core.Logic.{◌↔◌}
use mathlib.Core.Path.{◌≡◌, refl, sym, ap, ◌∙◌}
use native.Mathlib.Omega.{arith}
use native.Mathlib.Nat.{add-zero}
use native.Mathlib.Decide.{dec_le, dec_lt}
use Rattle.zaehlung.specs.Walk.{on_step, last, up, past, down, first, add, sub, W, count}
use Rattle.zaehlung.proofs.Every.{split}
use Rattle.zaehlung.proofs.Turns.{up_none, up_edge, up_open, up_shut, past_none, past_edge, past_open, past_shut}
use Rattle.zaehlung.proofs.Turns.{down_none, down_edge, down_open, down_shut, first_edge, first_open, first_shut}
use Rattle.zaehlung.proofs.Count.{count_none, count_open, count_shut, count_mono, count_back, count_at}
use Rattle.std.specs.Prelude.{Option, Some, None}

pub record Past (w : ℕ → Bool) (m d n e : ℕ) : Type 0 where
  pub counted : count w e ≡ count w d + n
  pub after : d ≤ e
  pub within : e ≤ m
  pub is_open : (v : ℕ) → d ≤ v → e ≡ suc v → w v ≡ true

pub record Up (w : ℕ → Bool) (m d n e : ℕ) : Type 0 where
  pub counted : count w (suc e) ≡ count w (suc d) + n
  pub after : d ≤ e
  pub within : e ≤ m
  pub is_open : d < e → w e ≡ true

pub record Down (w : ℕ → Bool) (d n e : ℕ) : Type 0 where
  pub counted : count w e + n ≡ count w d
  pub before : e ≤ d
  pub is_open : e < d → w e ≡ true

-- the day after the one that a step reaches
abbrev later : Option ℕ → Option ℕ
later s = on_step None s (λ e. Some (suc e))

-- a day is not Outside
never : {A : Type 0} (s : Option ℕ) (d : ℕ) → s ≡ Some d → s ≡ None → A
never s d p q = let z : ◌≡◌ {A = ℕ} 0 1 = cc in absurd (omega arith)

later_day : (s : Option ℕ) (e : ℕ) → later s ≡ Some (suc e) → s ≡ Some e
later_day (Some f) e p = cc
later_day None e p = never None (suc e) p refl

later_out : (s : Option ℕ) → later s ≡ None → s ≡ None
later_out (Some f) p = never (Some (suc f)) (suc f) refl p
later_out None p = refl

-- Where each outcome of a step brings a fact, P e of Day e and Q of Outside, and no two of these facts hold together,
-- an outcome is there exactly if its fact is.
module _ {s : Option ℕ} {P : ℕ → Type 0} {Q : Type 0} (day : (e : ℕ) → s ≡ Some e → P e) (out : s ≡ None → Q) where
  exactly_day : ((e f : ℕ) → P e → P f → e ≡ f) → ((e : ℕ) → P e → Q → ⊥) → (e : ℕ) → (s ≡ Some e) ↔ P e
  exactly_day one not e = (day e, λ p. go s refl p)
    where
      go : (r : Option ℕ) → s ≡ r → P e → s ≡ Some e
      go (Some f) q p = q ∙ ap Some (one f e (day f q) p)
      go None q p = absurd (not e p (out q))

  exactly_out : ((e : ℕ) → P e → Q → ⊥) → (s ≡ None) ↔ Q
  exactly_out not = (out, λ x. go s refl x)
    where
      go : (r : Option ℕ) → s ≡ r → Q → s ≡ None
      go (Some f) q x = absurd (not f (day f q) x)
      go None q x = q

module _ (w : ℕ → Bool) where
  -- past, turn by turn
  past_here : (k d e : ℕ) → past w k d 0 ≡ Some e → Past w (d + k) d 0 e
  past_here k d e p =
      let q : d ≡ e = cc (past_none w k d) in
      let c = ap (count w) q in
      record {
        counted = omega arith;
        after = omega arith;
        within = omega arith;
        is_open = λ v h g. absurd (omega arith);
      }

  past_took : (k d n e : ℕ) → w d ≡ true → Past w (suc d + k) (suc d) n e → Past w (d + suc k) d (suc n) e
  past_took k d n e h r =
      record {
        counted = omega (arith, count_open w d h);
        after = omega arith;
        within = omega arith;
        is_open =
            λ v m g. elim (dec_le (suc d) v) [ yes q ↦ r.is_open v q g | no q ↦ let s : v ≡ d = omega arith in rw s h ];
      }

  past_left : (k d n e : ℕ) → w d ≡ false → Past w (suc d + k) (suc d) (suc n) e → Past w (d + suc k) d (suc n) e
  past_left k d n e h r =
      record {
        counted = omega (arith, count_shut w d h);
        after = omega arith;
        within = omega arith;
        is_open = λ v m g. r.is_open v (omega (arith, count_back w (suc d) e (omega arith))) g;
      }

  past_to : (k d n e : ℕ) → past w k d n ≡ Some e → Past w (d + k) d n e
  past_to zero d zero e p = past_here zero d e p
  past_to (suc k) d zero e p = past_here (suc k) d e p
  past_to zero d (suc n) e p = never (past w zero d (suc n)) e p (past_edge w d n)
  past_to (suc k) d (suc n) e p =
      split (w d)
      (λ h. past_took k d n e h (past_to k (suc d) n e (sym (past_open w k d n h) ∙ p)))
      (λ h. past_left k d n e h (past_to k (suc d) (suc n) e (sym (past_shut w k d n h) ∙ p)))

  past_few : (k d n : ℕ) → past w k d n ≡ None → count w (d + k) < count w d + n
  past_few zero d zero p = never (past w zero d 0) d (past_none w zero d) p
  past_few (suc k) d zero p = never (past w (suc k) d 0) d (past_none w (suc k) d) p
  past_few zero d (suc n) p = rw add-zero (omega arith)
  past_few (suc k) d (suc n) p =
      let e : d + suc k ≡ suc d + k = omega arith in
      rw e
      (split (w d)
      (λ h. omega (arith, count_open w d h, past_few k (suc d) n (sym (past_open w k d n h) ∙ p)))
      (λ h. omega (arith, count_shut w d h, past_few k (suc d) (suc n) (sym (past_shut w k d n h) ∙ p))))

  -- of two days that fit none is later: the day before the later one would be open, and would count
  past_least : (m d n e f : ℕ) → Past w m d n e → Past w m d n f → e ≤ f
  past_least m d n e f p q =
      elim (dec_le e f) [
        | yes y ↦ y
        | no y ↦
            absurd
            (let v : ℕ = e - 1 in
            let s : e ≡ suc v = omega arith in
            let c = ap (count w) s in
            omega (arith, count_open w v (p.is_open v (omega arith) s), count_mono w f v (omega arith)))
      ]

  past_one : (m d n e f : ℕ) → Past w m d n e → Past w m d n f → e ≡ f
  past_one m d n e f p q = omega (arith, past_least m d n e f p q, past_least m d n f e q p)

  past_not : (m d n e : ℕ) → Past w m d n e → count w m < count w d + n → ⊥
  past_not m d n e p q = omega (arith, count_mono w e m p.within)

  pub past_day : (k d n e : ℕ) → (past w k d n ≡ Some e) ↔ Past w (d + k) d n e
  past_day k d n = exactly_day (past_to k d n) (past_few k d n) (past_one (d + k) d n) (past_not (d + k) d n)

  pub past_out : (k d n : ℕ) → (past w k d n ≡ None) ↔ (count w (d + k) < count w d + n)
  past_out k d n = exactly_out (past_to k d n) (past_few k d n) (past_not (d + k) d n)

  -- down, turn by turn
  down_here : (d e : ℕ) → down w d 0 ≡ Some e → Down w d 0 e
  down_here d e p =
      let q : d ≡ e = cc (down_none w d) in
      let c = ap (count w) q in
      record { counted = omega arith; before = omega arith; is_open = λ h. absurd (omega arith) }

  down_took : (d n e : ℕ) → w d ≡ true → Down w d n e → Down w (suc d) (suc n) e
  down_took d n e h r =
      record {
        counted = omega (arith, count_open w d h);
        before = omega arith;
        is_open = λ m. elim (dec_lt e d) [ yes q ↦ r.is_open q | no q ↦ let s : e ≡ d = omega arith in rw s h ];
      }

  down_left : (d n e : ℕ) → w d ≡ false → Down w d (suc n) e → Down w (suc d) (suc n) e
  down_left d n e h r =
      record {
        counted = omega (arith, count_shut w d h);
        before = omega arith;
        is_open = λ m. r.is_open (count_back w e d (omega arith));
      }

  down_to : (d n e : ℕ) → down w d n ≡ Some e → Down w d n e
  down_to zero zero e p = down_here zero e p
  down_to (suc d) zero e p = down_here (suc d) e p
  down_to zero (suc n) e p = never (down w zero (suc n)) e p (down_edge w n)
  down_to (suc d) (suc n) e p =
      split (w d)
      (λ h. down_took d n e h (down_to d n e (sym (down_open w d n h) ∙ p)))
      (λ h. down_left d n e h (down_to d (suc n) e (sym (down_shut w d n h) ∙ p)))

  down_few : (d n : ℕ) → down w d n ≡ None → count w d < n
  down_few zero zero p = never (down w zero 0) 0 (down_none w zero) p
  down_few (suc d) zero p = never (down w (suc d) 0) (suc d) (down_none w (suc d)) p
  down_few zero (suc n) p = omega (arith, count_none w)
  down_few (suc d) (suc n) p =
      split (w d)
      (λ h. omega (arith, count_open w d h, down_few d n (sym (down_open w d n h) ∙ p)))
      (λ h. omega (arith, count_shut w d h, down_few d (suc n) (sym (down_shut w d n h) ∙ p)))

  down_most : (d n e f : ℕ) → Down w d n e → Down w d n f → f ≤ e
  down_most d n e f p q =
      elim (dec_le f e) [
        | yes y ↦ y
        | no y ↦ absurd (omega (arith, count_open w e (p.is_open (omega arith)), count_mono w (suc e) f (omega arith)))
      ]

  down_one : (d n e f : ℕ) → Down w d n e → Down w d n f → e ≡ f
  down_one d n e f p q = omega (arith, down_most d n e f p q, down_most d n f e q p)

  down_not : (d n e : ℕ) → Down w d n e → count w d < n → ⊥
  down_not d n e p q = omega arith

  pub down_day : (d n e : ℕ) → (down w d n ≡ Some e) ↔ Down w d n e
  down_day d n = exactly_day (down_to d n) (down_few d n) (down_one d n) (down_not d n)

  pub down_out : (d n : ℕ) → (down w d n ≡ None) ↔ (count w d < n)
  down_out d n = exactly_out (down_to d n) (down_few d n) (down_not d n)

  -- up and first stop the day before past, which starts a day later, or has n = 1: what holds of them follows
  before_day : (k d n : ℕ) (s : Option ℕ) → past w k d n ≡ later s → (e : ℕ) → (s ≡ Some e) ↔ Past w (d + k) d n (suc e)
  before_day k d n s q e =
      (λ p. (past_day k d n (suc e)).0 (q ∙ ap later p), λ r. later_day s e (sym q ∙ (past_day k d n (suc e)).1 r))

  before_out : (k d n : ℕ) (s : Option ℕ) → past w k d n ≡ later s → (s ≡ None) ↔ (count w (d + k) < count w d + n)
  before_out k d n s q =
      (λ p. (past_out k d n).0 (q ∙ ap later p), λ r. later_out s (sym q ∙ (past_out k d n).1 r))

  up_past : (k d n : ℕ) → past w k (suc d) n ≡ later (up w k d n)
  up_past zero d zero = cc (past_none w zero (suc d), ap later (up_none w zero d))
  up_past (suc k) d zero = cc (past_none w (suc k) (suc d), ap later (up_none w (suc k) d))
  up_past zero d (suc n) = cc (past_edge w (suc d) n, ap later (up_edge w d n))
  up_past (suc k) d (suc n) =
      split (w (suc d))
      (λ h. rw (past_open w k (suc d) n h, up_open w k d n h) (up_past k (suc d) n))
      (λ h. rw (past_shut w k (suc d) n h, up_shut w k d n h) (up_past k (suc d) (suc n)))

  pub up_day : (k d n e : ℕ) → (up w k d n ≡ Some e) ↔ Up w (d + k) d n e
  up_day k d n e = (λ p. to (b.0 p), λ r. b.1 (from r))
    where
      b : (up w k d n ≡ Some e) ↔ Past w (suc d + k) (suc d) n (suc e)
      b = before_day k (suc d) n (up w k d n) (up_past k d n) e

      to : Past w (suc d + k) (suc d) n (suc e) → Up w (d + k) d n e
      to r =
          record { counted = r.counted; after = omega arith; within = omega arith; is_open = λ h. r.is_open e h refl }

      from : Up w (d + k) d n e → Past w (suc d + k) (suc d) n (suc e)
      from r =
          record {
            counted = r.counted;
            after = omega arith;
            within = omega arith;
            is_open = λ v h g. let q : v ≡ e = omega arith in rw q (r.is_open (omega arith));
          }

  pub up_out : (k d n : ℕ) → (up w k d n ≡ None) ↔ (count w (suc d + k) < count w (suc d) + n)
  up_out k d n = before_out k (suc d) n (up w k d n) (up_past k d n)

  first_past : (k d : ℕ) → past w (suc k) d 1 ≡ later (first w k d)
  first_past zero d =
      split (w d)
      (λ h. rw (past_open w 0 d 0 h, first_open w 0 d h) (past_none w 0 (suc d)))
      (λ h. rw (past_shut w 0 d 0 h, first_edge w d h) (past_edge w (suc d) 0))
  first_past (suc k) d =
      split (w d)
      (λ h. rw (past_open w (suc k) d 0 h, first_open w (suc k) d h) (past_none w (suc k) (suc d)))
      (λ h. rw (past_shut w (suc k) d 0 h, first_shut w k d h) (first_past k (suc d)))

  pub first_day_lem : (k d e : ℕ) → (first w k d ≡ Some e) ↔ ((w e ≡ true) × (count w e ≡ count w d) × (e ≤ d + k))
  first_day_lem k d e = (λ p. to (b.0 p), λ r. b.1 (from r))
    where
      b : (first w k d ≡ Some e) ↔ Past w (d + suc k) d 1 (suc e)
      b = before_day (suc k) d 1 (first w k d) (first_past k d) e

      to : Past w (d + suc k) d 1 (suc e) → (w e ≡ true) × (count w e ≡ count w d) × (e ≤ d + k)
      to r =
          let o = r.is_open e (omega (arith, count_back w d (suc e) (omega arith))) refl in
          (o, omega (arith, count_open w e o), omega arith)

      from : (w e ≡ true) × (count w e ≡ count w d) × (e ≤ d + k) → Past w (d + suc k) d 1 (suc e)
      from r =
          record {
            counted = omega (arith, count_open w e r.0);
            after = omega (arith, count_at w e d r.0 (omega arith));
            within = omega arith;
            is_open = λ v h g. let q : v ≡ e = omega arith in rw q r.0;
          }

  pub first_out : (k d : ℕ) → (first w k d ≡ None) ↔ (count w (d + suc k) < count w d + 1)
  first_out k d = before_out (suc k) d 1 (first w k d) (first_past k d)

  pub add_day : (d n e : ℕ) → d ≤ last → (add w d n ≡ Some e) ↔ Up w last d n e
  unfolding add
  add_day d n e h = let q : d + (last - d) ≡ last = omega arith in rw q at (up_day (last - d) d n e)

  pub sub_day : (d n e : ℕ) → (sub w d n ≡ Some e) ↔ Down w d n e
  unfolding sub
  sub_day d n e = down_day d n e

  pub w_day : (t n e : ℕ) → t ≤ last → (W w t n ≡ Some e) ↔ Past w last t n e
  unfolding W
  w_day t n e h = let q : t + (last - t) ≡ last = omega arith in rw q at (past_day (last - t) t n e)
