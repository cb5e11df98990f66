-- What a TooLate says, for every shape and any test w of a day.
--   Late w s t a b y  the window closes on a day, the day held against it comes later, b Werktage later, and y is the
--                     date that a TooLate of the shape names
--   late_says         so if the verdict is TooLate b y
-- Source: document 01, vorlauf.rs.
-- Assumes nothing.
use Prim.Native.Nat.{ℕ, ◌<◌}
use mathlib.Core.Bool.{Bool}
use mathlib.Core.Path.{◌≡◌, ◌∙◌}
use Rattle.zaehlung.specs.Walk.{on_step, add, sub, between}
use Rattle.datum.specs.Monate.{months_later}
use Rattle.vorlauf.specs.declared.VorlaufShape.{VorlaufShape}
use Rattle.vorlauf.specs.declared.VorlaufShape.TheVariants.{LatestWerktageBefore, WindowWerktageBefore}
use Rattle.vorlauf.specs.declared.VorlaufShape.TheVariants.{LatestWerktageAfter, EarliestWerktageAfter, Korridor}
use Rattle.vorlauf.specs.declared.VorlaufShape.TheVariants.{TagVorDemLetztenWerktagVor, LatestMonateBefore}
use Rattle.vorlauf.specs.declared.VorlaufShape.TheVariants.{LatestMonateUndWerktageBefore}
use Rattle.vorlauf.specs.declared.VorlaufVerdict.TheVariants.{TooLate}
use Rattle.vorlauf.specs.Verdict.{closes, reaches, fruehester_termin_nach_tag_vor_dem_letzten_werktag, verdict_on}
use Rattle.vorlauf.specs.Verdict.{check_of}
use Rattle.spannen.specs.Late.{date_of_late}
use Rattle.spannen.proofs.SpansCases.{late_day, late_upto, late_window}
use Rattle.std.specs.Prelude.{Option, Some, None}

pub record Late (w : ℕ → Bool) (s : VorlaufShape) (t a b y : ℕ) : Type 0 where
  pub last_day_lem : ℕ
  pub held : ℕ
  pub closed : closes w s a ≡ Some last_day_lem
  pub reached : reaches w s t ≡ Some held
  pub after : last_day_lem < held
  pub short : between w last_day_lem held ≡ b
  pub named : date_of_late w s t a ≡ Some y

module _ (w : ℕ → Bool) (t a b y : ℕ) where
  module _ (s : VorlaufShape) (c r : ℕ) (p : closes w s a ≡ Some c) (q : reaches w s t ≡ Some r) where
    is_late : c < r → date_of_late w s t a ≡ Some y → between w c r ≡ b → Late w s t a b y
    is_late h e g = record { last_day_lem = c; held = r; closed = p; reached = q; after = h; short = g; named = e }

  verdict_says :
      (s : VorlaufShape) (c r : ℕ) → closes w s a ≡ Some c → reaches w s t ≡ Some r →
      verdict_on w s t a c r ≡ (Some (TooLate b y)) → Late w s t a b y
  unfolding reaches
  verdict_says (LatestWerktageBefore n) c r p q =
      late_upto b y w r c (add w t n) (is_late (LatestWerktageBefore n) c r p q)
  verdict_says (WindowWerktageBefore earliest latest) c r p q =
      late_day b y (sub w a earliest) _ (λ o _.
      late_window b y w t r o c (between w t o) (add w t latest)
      (is_late (WindowWerktageBefore earliest latest) c r p q))
  verdict_says (LatestWerktageAfter n) c r p q = late_upto b y w r c (Some a) (is_late (LatestWerktageAfter n) c r p q)
  verdict_says (EarliestWerktageAfter n) c r p q =
      late_upto b y w r c (Some r) (λ h e. is_late (EarliestWerktageAfter n) c r p q h (q ∙ e))
  verdict_says (Korridor n) c r p q =
      late_day b y (sub w a n) _ (λ o u.
      late_window b y w t r o c (between w t o) (Some o) (λ h e. is_late (Korridor n) c r p q h (u ∙ e)))
  verdict_says TagVorDemLetztenWerktagVor c r p q =
      late_upto b y w r c (fruehester_termin_nach_tag_vor_dem_letzten_werktag w t)
      (is_late TagVorDemLetztenWerktagVor c r p q)
  verdict_says (LatestMonateBefore n) c r p q =
      late_day b y (months_later t n) _ (λ f u.
      late_upto b y w r c (Some f) (λ h e. is_late (LatestMonateBefore n) c r p q h (u ∙ e)))
  verdict_says (LatestMonateUndWerktageBefore monate werktage) c r p q =
      late_day b y (add w t werktage) _ (λ d v.
      late_day b y (months_later d monate) _ (λ f u.
      late_upto b y w r c (Some f) (λ h e.
      is_late (LatestMonateUndWerktageBefore monate werktage) c r p q h (rw v (u ∙ e)))))

  pub late_says : (s : VorlaufShape) → check_of w s t a ≡ (Some (TooLate b y)) → Late w s t a b y
  unfolding check_of
  late_says s = late_day b y (closes w s a) _ (λ c p. late_day b y (reaches w s t) _ (λ r q. verdict_says s c r p q))
