-- A verdict is TooLate exactly if the day held against the last permitted transmission day comes after it, for every
-- test w of a day, every shape s, and t and a of the calendar.
--   late_after   closes < reaches, if the verdict is TooLate: of any shape
--   late_iff     the verdict is TooLate exactly if closes < reaches, if it isn't refused and the shape is ordered
-- Source: document 02, F-6: the margin 'is negative exactly if the verdict is TooLate, apart from
-- `WindowWerktageBefore` with `earliest` below `latest`, where TooEarly may stand beside a negative margin'.
-- Assumes nothing.
use Prim.Native.Nat.{ℕ, ◌≤◌, ◌<◌}
use mathlib.Core.Bool.{Bool, cond}
use mathlib.Core.Logic.{◌↔◌, ◌≢◌}
use mathlib.Core.Path.{◌≡◌, refl}
use native.Mathlib.Omega.{arith}
use lib.Dec.{ltb}
use Rattle.zaehlung.specs.Walk.{last, on_step, add, sub, between}
use Rattle.zaehlung.proofs.Reach.{add_day, sub_day}
use Rattle.datum.specs.Monate.{months_later}
use Rattle.vorlauf.specs.declared.VorlaufShape.{VorlaufShape}
use Rattle.vorlauf.specs.declared.VorlaufShape.TheVariants.{LatestWerktageBefore, WindowWerktageBefore}
use Rattle.vorlauf.specs.declared.VorlaufShape.TheVariants.{LatestWerktageAfter, EarliestWerktageAfter, Korridor}
use Rattle.vorlauf.specs.declared.VorlaufShape.TheVariants.{TagVorDemLetztenWerktagVor, LatestMonateBefore}
use Rattle.vorlauf.specs.declared.VorlaufShape.TheVariants.{LatestMonateUndWerktageBefore}
use Rattle.vorlauf.specs.declared.VorlaufVerdict.{VorlaufVerdict}
use Rattle.vorlauf.specs.declared.VorlaufVerdict.TheVariants.{Ok, TooLate, TooEarly}
use Rattle.vorlauf.specs.Verdict.{closes, reaches, fruehester_termin_nach_tag_vor_dem_letzten_werktag}
use Rattle.vorlauf.specs.Verdict.{not_after, verdict_on, check_of}
use Rattle.spannen.specs.Late.{IsLate, IsOrdered}
use Rattle.spannen.proofs.SpansSteps.{sub_fewer}
use Rattle.spannen.proofs.SpansCases.{day_cases, upto_cases, under_cases}
use Rattle.spannen.proofs.SpansLate.{late_says}
use Rattle.std.specs.Prelude.{Option, Some, None}

-- unless v is refused, it is TooLate
abbrev Lates : Option VorlaufVerdict → Type 0
Lates v = v ≢ None → IsLate v

step_lates :
    (s : Option ℕ) (f : ℕ → Option VorlaufVerdict) → ((d : ℕ) → s ≡ Some d → Lates (f d)) → Lates (on_step None s f)
step_lates s f = day_cases Lates s f (λ _ n. absurd (n refl))

module _ (w : ℕ → Bool) (t a : ℕ) (ha : a ≤ last) where
  upto_lates : (r c : ℕ) (f : Option ℕ) → c < r → Lates (not_after w r c f)
  unfolding not_after
  upto_lates r c f h =
      upto_cases Lates r c (Some Ok) (on_step None f (λ y. (Some (TooLate (between w c r) y))))
      (λ g. absurd (omega arith))
      (λ _. step_lates f (λ y. (Some (TooLate (between w c r) y))) (λ y _ _. (between w c r, y, refl)))

  -- it opens on a day by that on which it closes
  window_lates :
      (o c r b : ℕ) (f : Option ℕ) → o ≤ c → t ≡ r → c < r → Lates (cond (ltb t o) (Some (TooEarly b))
      (not_after w r c f))
  window_lates o c r b f g q h =
      under_cases Lates t o (Some (TooEarly b)) (not_after w r c f) (λ k. absurd (omega arith))
      (λ _. upto_lates r c f h)

  verdict_lates :
      (s : VorlaufShape) (c r : ℕ) → IsOrdered s → closes w s a ≡ Some c → reaches w s t ≡ Some r → c < r →
      Lates (verdict_on w s t a c r)
  unfolding closes reaches
  verdict_lates (LatestWerktageBefore n) c r i p q h = upto_lates r c (add w t n) h
  verdict_lates (WindowWerktageBefore earliest latest) c r i p q h =
      step_lates (sub w a earliest) _ (λ o u.
      window_lates o c r (between w t o) (add w t latest) (sub_fewer w a latest earliest c o i p u) (cc) h)
  verdict_lates (LatestWerktageAfter n) c r i p q h = upto_lates r c (Some a) h
  verdict_lates (EarliestWerktageAfter n) c r i p q h = upto_lates r c (Some r) h
  verdict_lates (Korridor n) c r i p q h =
      step_lates (sub w a n) _ (λ o u.
      let g : o ≤ c = omega (arith, ((sub_day w a n o).0 u).before, ((add_day w a n c ha).0 p).after) in
      window_lates o c r (between w t o) (Some o) g (cc) h)
  verdict_lates TagVorDemLetztenWerktagVor c r i p q h =
      upto_lates r c (fruehester_termin_nach_tag_vor_dem_letzten_werktag w t) h
  verdict_lates (LatestMonateBefore n) c r i p q h = step_lates (months_later t n) _ (λ y _. upto_lates r c (Some y) h)
  verdict_lates (LatestMonateUndWerktageBefore monate werktage) c r i p q h =
      step_lates (add w t werktage) _ (λ d _. step_lates (months_later d monate) _ (λ y _. upto_lates r c (Some y) h))

  module _ (s : VorlaufShape) (c r : ℕ) (p : closes w s a ≡ Some c) (q : reaches w s t ≡ Some r) where
    pub late_after : IsLate (check_of w s t a) → c < r
    late_after l =
        let e = late_says w t a l.0 l.1 s l.2 in
        let x : c ≡ e.last_day_lem = cc e.closed in
        let y : r ≡ e.held = cc e.reached in
        omega (arith, e.after)

    pub late_iff : IsOrdered s → check_of w s t a ≢ None → IsLate (check_of w s t a) ↔ (c < r)
    unfolding check_of
    late_iff i n = (late_after, λ h. let v = verdict_lates s c r i p q h in rw (p, q) (v (rw (p, q) at n)))
