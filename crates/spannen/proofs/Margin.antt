-- The sign of a verdict's margin, for any test w of a day, every shape s and any t and a of the calendar. A judgement
-- is a verdict v with its margin m. `Closes` says which day is the last permitted one.
--   judged_parts      the verdict is that of `check_of`, the margin that of `margin_of`
--   judged_iff        there is no judgement exactly if there is no verdict: the margin adds no refusal
--   refused_closes    there is none where the last permitted transmission day leaves the calendar
--   refused_earliest  for `EarliestWerktageAfter` there is none exactly if `add_werktage` leaves the calendar
--   margin_fits       a margin is at most as many days as from the calendar's first to its last, or as many below zero
--   late_negative     TooLate has a negative margin, whatever the shape
--   negative_iff      the margin is negative exactly if the verdict is TooLate, if the shape is ordered
--   window_early      a window's negative margin without TooLate says TooEarly, and that `earliest` is below `latest`
--   early_negative    which happens
-- Assumes nothing.
use Prim.Native.Nat.{ℕ, ◌-◌, ◌≤◌, ◌<◌}
use mathlib.Core.Bool.{Bool, cond}
use mathlib.Core.Logic.{◌↔◌, ◌≢◌}
use mathlib.Core.Path.{◌≡◌, refl, sym, ap, ◌∙◌}
use native.Mathlib.Omega.{arith}
use native.Mathlib.Decide.{dec_le, dec_lt}
use lib.Dec.{ltb, ltb→lt}
use lib.IntN.{ℤ, pos, nat_abs, ◌-ℤ◌}
use lib.Signed.{◌<ℤ◌}
use Rattle.std.specs.Prelude.{Option, Some, None}
use Rattle.std.specs.Option.{option_zip}
use Rattle.zaehlung.specs.Walk.{last, on_step, day_before, add, sub, down, between, among}
use Rattle.zaehlung.specs.Blocks.{start, at}
use Rattle.zaehlung.specs.Lists.{any}
use Rattle.zaehlung.proofs.Laws.{add_inside, sub_inside, on_step_day, day_before_is}
use Rattle.datum.specs.Calendar.{is_leap, year_len, days_in_month, date_in}
use Rattle.datum.specs.Monate.{months_earlier}
use Rattle.datum.proofs.Months.{earlier_inside}
use Rattle.datum.proofs.Signed.{sub_pos, sub_neg}
use Rattle.werktag.specs.Easter.{easter_sunday, easter_index}
use Rattle.werktag.specs.Werktag.{is_fixed, is_buss_und_bettag, is_easter_feast, is_werktag}
use Rattle.vorlauf.specs.declared.VorlaufShape.{VorlaufShape}
use Rattle.vorlauf.specs.declared.VorlaufShape.TheVariants.{LatestWerktageBefore, WindowWerktageBefore}
use Rattle.vorlauf.specs.declared.VorlaufShape.TheVariants.{LatestWerktageAfter, EarliestWerktageAfter, Korridor}
use Rattle.vorlauf.specs.declared.VorlaufShape.TheVariants.{TagVorDemLetztenWerktagVor, LatestMonateBefore}
use Rattle.vorlauf.specs.declared.VorlaufShape.TheVariants.{LatestMonateUndWerktageBefore}
use Rattle.vorlauf.specs.declared.VorlaufVerdict.{VorlaufVerdict}
use Rattle.vorlauf.specs.declared.VorlaufVerdict.TheVariants.{Ok, TooLate, TooEarly}
use Rattle.vorlauf.specs.Verdict.{closes, reaches, not_after, check_of}
use Rattle.vorlauf.specs.Margin.{margin_of, judgement_of}
use Rattle.spannen.proofs.SpansCases.{day_cases, upto_cases, under_cases}
use Rattle.spannen.specs.Late.{IsLate, IsOrdered}
use Rattle.spannen.specs.Margins.{IsEarly, NegativeWindow}
use Rattle.spannen.proofs.Closes.{late_after, late_iff}

some_none : {A B : Type 0} (x : A) → Some x ≡ None → B
some_none x e = let z : ◌≡◌ {A = ℕ} 0 1 = cc in absurd (omega arith)

none_some : {A B : Type 0} (x : A) → None ≡ Some x → B
none_some x e = some_none x (sym e)

zip_parts :
    {A B : Type 0} (x : Option A) (y : Option B) (a : A) (b : B) → option_zip x y ≡ Some (a, b) →
    (x ≡ Some a) × (y ≡ Some b)
zip_parts {A} {B} (Some c) (Some d) a b e =
    let q : ◌≡◌ {A = A × B} (c, d) (a, b) = cc in
    (ap (λ p. Some p.0) q, ap (λ p. Some p.1) q)
zip_parts (Some c) None a b e = none_some (a, b) e
zip_parts None y a b e = none_some (a, b) e

zip_none :
    {A B : Type 0} (x : Option A) (y : Option B) → (y ≡ None → x ≡ None) → (option_zip x y ≡ None) ↔ (x ≡ None)
zip_none (Some c) (Some d) f = (λ e. some_none (c, d) e, λ e. some_none c e)
zip_none (Some c) None f = (λ _. f refl, λ _. refl)
zip_none None y f = (λ _. refl, λ _. refl)

-- what a margin needs, its verdict needs too
steps_none :
    {A B : Type 0} (x y : Option ℕ) (f : ℕ → ℕ → A) (g : ℕ → ℕ → Option B) →
    on_step None x (λ c. on_step None y (λ r. Some (f c r))) ≡ None →
    on_step None x (λ c. on_step None y (g c)) ≡ None
steps_none (Some c) (Some r) f g e = some_none (f c r) e
steps_none (Some c) None f g e = refl
steps_none None y f g e = refl

below_iff : (c r : ℕ) → ((pos c -ℤ pos r) <ℤ pos 0) ↔ (c < r)
below_iff c r =
    elim (dec_lt c r) [
      | yes h ↦ (λ _. h, λ _. rw (sub_neg c r h) (record { lt = tt }))
      | no h ↦ (
        λ k.
            let l : c - r < 0 = ltb→lt (c - r) 0 ((rw (sub_pos c r (omega arith)) at k).lt) in
            absurd (omega arith),
        λ k. absurd (omega arith),
      )
    ]

difference_fits : (c r : ℕ) → c ≤ last → r ≤ last → nat_abs (pos c -ℤ pos r) ≤ last
difference_fits c r h g =
    elim (dec_lt c r) [
      | yes k ↦ rw (sub_neg c r k) (omega arith)
      | no k ↦ rw (sub_pos c r (omega arith)) (omega arith)
    ]

closes_inside : (w : ℕ → Bool) (s : VorlaufShape) (a c : ℕ) → a ≤ last → closes w s a ≡ Some c → c ≤ last
unfolding closes
closes_inside w (LatestWerktageBefore n) a c h p = sub_inside w a n c h p
closes_inside w (WindowWerktageBefore earliest latest) a c h p = sub_inside w a latest c h p
closes_inside w (LatestWerktageAfter n) a c h p = add_inside w a n c h p
closes_inside w (EarliestWerktageAfter n) a c h p = let q : a ≡ c = cc in omega arith
closes_inside w (Korridor n) a c h p = add_inside w a n c h p
closes_inside w TagVorDemLetztenWerktagVor a c h p =
    let x = on_step_day (sub w a 1) day_before c p in
    omega (arith, sub_inside w a 1 x.0 h x.1, day_before_is x.0 c x.2)
closes_inside w (LatestMonateBefore n) a c h p = earlier_inside a n c h p
closes_inside w (LatestMonateUndWerktageBefore monate werktage) a c h p =
    let x = on_step_day (months_earlier a monate) (λ d. sub w d werktage) c p in
    sub_inside w x.0 werktage c (earlier_inside a monate x.0 h x.1) x.2

reaches_inside : (w : ℕ → Bool) (s : VorlaufShape) (t r : ℕ) → t ≤ last → reaches w s t ≡ Some r → r ≤ last
unfolding reaches
reaches_inside w (LatestWerktageBefore n) t r h p = let q : t ≡ r = cc in omega arith
reaches_inside w (WindowWerktageBefore earliest latest) t r h p = let q : t ≡ r = cc in omega arith
reaches_inside w (LatestWerktageAfter n) t r h p = let q : t ≡ r = cc in omega arith
reaches_inside w (EarliestWerktageAfter n) t r h p = add_inside w t n r h p
reaches_inside w (Korridor n) t r h p = let q : t ≡ r = cc in omega arith
reaches_inside w TagVorDemLetztenWerktagVor t r h p = let q : t ≡ r = cc in omega arith
reaches_inside w (LatestMonateBefore n) t r h p = let q : t ≡ r = cc in omega arith
reaches_inside w (LatestMonateUndWerktageBefore monate werktage) t r h p = let q : t ≡ r = cc in omega arith

held_none :
    (w : ℕ → Bool) (a : ℕ) (s : Option ℕ) → (on_step None s (λ r. not_after w r a (Some r)) ≡ None) ↔ (s ≡ None)
unfolding not_after
held_none w a None = (λ _. refl, λ _. refl)
held_none w a (Some r) = (
  upto_cases (λ x. x ≡ None → Some r ≡ None) r a (Some Ok) (Some (TooLate (between w a r) r))
      (λ _ e. some_none Ok e)
      (λ _ e. some_none (TooLate (between w a r) r) e),
  λ e. some_none r e,
)

-- past the day on which a window closes, a verdict that is not TooLate is TooEarly
early_else :
    (w : ℕ → Bool) (v : VorlaufVerdict) → (IsLate (Some v) → ⊥) → (t o c b : ℕ) (f : Option ℕ) → c < t →
    cond (ltb t o) (Some (TooEarly b)) (not_after w t c f) ≡ Some v → IsEarly v
unfolding not_after
early_else w v n t o c b f h =
    under_cases (λ x. x ≡ Some v → IsEarly v) t o (Some (TooEarly b)) (not_after w t c f) (λ _ e. (b, cc)) (λ _.
    upto_cases (λ x. x ≡ Some v → IsEarly v) t c (Some Ok) (on_step None f (λ y. Some (TooLate (between w c t) y)))
    (λ g. absurd (omega arith)) (λ _.
    day_cases (λ x. x ≡ Some v → IsEarly v) f _ (λ _ e. none_some v e)
    (λ y _ e. absurd (n (between w c t, y, sym e)))))

module _ (w : ℕ → Bool) (t a : ℕ) where
  module _ (s : VorlaufShape) where
    margin_none : margin_of w s t a ≡ None → check_of w s t a ≡ None
    unfolding margin_of check_of
    margin_none = steps_none (closes w s a) (reaches w s t) _ _

    pub judged_iff : (judgement_of w s t a ≡ None) ↔ (check_of w s t a ≡ None)
    unfolding judgement_of
    judged_iff = zip_none (check_of w s t a) (margin_of w s t a) margin_none

    pub refused_closes : closes w s a ≡ None → judgement_of w s t a ≡ None
    unfolding judgement_of
    refused_closes e = rw e

    module _ (v : VorlaufVerdict) (m : ℤ) (j : judgement_of w s t a ≡ Some (v, m)) where
      pub judged_parts : (check_of w s t a ≡ Some v) × (margin_of w s t a ≡ Some m)
      unfolding judgement_of
      judged_parts = zip_parts (check_of w s t a) (margin_of w s t a) v m j

      -- the two days whose difference the margin is
      pub margin_days :
          (c : ℕ) × (r : ℕ) × (closes w s a ≡ Some c) × (reaches w s t ≡ Some r) × (m ≡ pos c -ℤ pos r)
      unfolding margin_of
      margin_days =
          let x = on_step_day (closes w s a) _ m judged_parts.1 in
          let y = on_step_day (reaches w s t) _ m x.2 in
          (x.0, y.0, x.1, y.1, cc)

      module _ (ha : a ≤ last) where
        pub margin_fits : t ≤ last → nat_abs m ≤ last
        margin_fits ht =
            let d = margin_days in
            rw d.4 (difference_fits d.0 d.1 (closes_inside w s a d.0 ha d.2) (reaches_inside w s t d.1 ht d.3))

        pub late_negative : IsLate (Some v) → m <ℤ pos 0
        late_negative l =
            let d = margin_days in
            rw d.4 ((below_iff d.0 d.1).1 (late_after w t a ha s d.0 d.1 d.2 d.3 (rw judged_parts.0 l)))

        pub negative_iff : IsOrdered s → (m <ℤ pos 0) ↔ IsLate (Some v)
        negative_iff o =
            let d = margin_days in
            let n : check_of w s t a ≢ None = λ e. some_none v (sym judged_parts.0 ∙ e) in
            let i = late_iff w t a ha s d.0 d.1 d.2 d.3 o n in
            (λ k. rw judged_parts.0 at (i.1 ((below_iff d.0 d.1).0 (rw d.4 at k))), late_negative)

  -- 'For `EarliestWerktageAfter`(n) the number is the anchor minus `add_werktage`(transmission day, n)'
  pub refused_earliest : (n : ℕ) → (judgement_of w (EarliestWerktageAfter n) t a ≡ None) ↔ (add w t n ≡ None)
  unfolding check_of closes reaches
  refused_earliest n =
      let i = judged_iff (EarliestWerktageAfter n) in
      let k = held_none w a (add w t n) in
      (λ e. k.0 (i.0 e), λ e. i.1 (k.1 e))

  pub window_early :
      (earliest latest : ℕ) (v : VorlaufVerdict) (m : ℤ) → a ≤ last →
      judgement_of w (WindowWerktageBefore earliest latest) t a ≡ Some (v, m) → m <ℤ pos 0 → (IsLate (Some v) → ⊥) →
      IsEarly v × (earliest < latest)
  unfolding check_of closes reaches
  window_early earliest latest v m ha j k n =
      let s = WindowWerktageBefore earliest latest in
      let d = margin_days s v m j in
      let l : d.0 < d.1 = (below_iff d.0 d.1).0 (rw d.4 at k) in
      let e : d.1 ≡ t = cc in (
        day_cases (λ x. x ≡ Some v → IsEarly v) (sub w a earliest) _ (λ _ e. none_some v e)
            (λ o _. early_else w v n t o d.0 _ (add w t latest) (omega arith)) (rw d.2 at (judged_parts s v m j).0),
        elim (dec_le latest earliest) [
          | yes o ↦ absurd (n ((negative_iff s v m j ha o).0 k))
          | no o ↦ omega arith
        ],
      )

pub early_negative : NegativeWindow
unfolding judgement_of margin_of check_of closes reaches sub down between among
    is_werktag is_fixed is_buss_und_bettag is_easter_feast any
    easter_index easter_sunday date_in at start year_len days_in_month is_leap
early_negative = refl
