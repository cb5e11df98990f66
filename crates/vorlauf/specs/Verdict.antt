-- The verdict of a shape on a transmission day t and an anchor a, for any test w of a day. Every date that the Rust
-- computes is computed here too, and only where it does; where one leaves the calendar there is no verdict, None.
--   closes w s a           = the last permitted transmission day for the anchor a
--   reaches w s t          = the day that is held against it: t, but for `EarliestWerktageAfter`
--   fruehester_termin_nach_tag_vor_dem_letzten_werktag w t = the day after the first open day after t
--   not_after w t c f      = Ok up to the day c, else TooLate with the date f, which is computed only then
--   verdict_on w s t a c r = the verdict, where the window closes on c and r is held against it
--   check_of w s t a       = the verdict
-- Source: document 01, vorlauf.rs: `VorlaufShape::check`, `fruehester_termin_nach_tag_vor_dem_letzten_werktag`,
-- `not_after`; for closes and reaches document 02, F-6.
use Rattle.std.specs.Prelude.{ℕ, Bool, cond, leb, ltb, Option, Some, None, Ok}
use Rattle.zaehlung.specs.Walk.{on_step, day_after, day_before, add, sub, next, between}
use Rattle.datum.specs.Monate.{months_later, months_earlier}
use Rattle.vorlauf.specs.declared.VorlaufShape.{VorlaufShape}
use Rattle.vorlauf.specs.declared.VorlaufShape.TheVariants.{LatestWerktageBefore, WindowWerktageBefore}
use Rattle.vorlauf.specs.declared.VorlaufShape.TheVariants.{LatestWerktageAfter, EarliestWerktageAfter, Korridor}
use Rattle.vorlauf.specs.declared.VorlaufShape.TheVariants.{TagVorDemLetztenWerktagVor, LatestMonateBefore}
use Rattle.vorlauf.specs.declared.VorlaufShape.TheVariants.{LatestMonateUndWerktageBefore}
use Rattle.vorlauf.specs.declared.VorlaufVerdict.{VorlaufVerdict}
use Rattle.vorlauf.specs.declared.VorlaufVerdict.TheVariants.{Ok, TooLate, TooEarly}

-- 'the last permitted transmission day (the date beyond which the Rust's `check` calls a transmission too late; for the
-- window the one that `latest` gives)'
unfoldable pub closes : (ℕ → Bool) → VorlaufShape → ℕ → Option ℕ
closes w (LatestWerktageBefore n) a = sub w a n
closes w (WindowWerktageBefore earliest latest) a = sub w a latest
closes w (LatestWerktageAfter n) a = add w a n
closes w (EarliestWerktageAfter n) a = Some a
closes w (Korridor n) a = add w a n
closes w TagVorDemLetztenWerktagVor a = on_step None (sub w a 1) day_before
closes w (LatestMonateBefore n) a = months_earlier a n
-- the months first, then the Werktage back
closes w (LatestMonateUndWerktageBefore monate werktage) a =
    on_step None (months_earlier a monate) (λ d. sub w d werktage)

-- 'For `EarliestWerktageAfter`(n) .. the anchor minus `add_werktage`(transmission day, n)': its anchor is the date
-- requested, and the n-th Werktag after t must not lie beyond that
unfoldable pub reaches : (ℕ → Bool) → VorlaufShape → ℕ → Option ℕ
reaches w (LatestWerktageBefore n) t = Some t
reaches w (WindowWerktageBefore earliest latest) t = Some t
reaches w (LatestWerktageAfter n) t = Some t
reaches w (EarliestWerktageAfter n) t = add w t n
reaches w (Korridor n) t = Some t
reaches w TagVorDemLetztenWerktagVor t = Some t
reaches w (LatestMonateBefore n) t = Some t
reaches w (LatestMonateUndWerktageBefore monate werktage) t = Some t

-- 'the day after the first Werktag strictly after the ÜT': `next_werktag` of the day after t, and the day after that
unfoldable pub fruehester_termin_nach_tag_vor_dem_letzten_werktag : (ℕ → Bool) → ℕ → Option ℕ
fruehester_termin_nach_tag_vor_dem_letzten_werktag w t = on_step None (day_after t)
    (λ d. on_step None (next w d) day_after)

-- '`Ok` while `uebertragungstag` is at or before `latest_uet`, else `TooLate`'
unfoldable pub not_after : (ℕ → Bool) → ℕ → ℕ → Option ℕ → Option VorlaufVerdict
not_after w t c f = cond (leb t c) (Some Ok) (on_step None f (λ y. Some (TooLate (between w c t) y)))

-- 'The two month shapes compute their earliest date even when the verdict is Ok; leaving the calendar there is
-- refusal 8.' 'Under TooLate, `LatestWerktageAfter` names the anchor itself and `Korridor` its opening day.'
abbrev pub verdict_on : (ℕ → Bool) → VorlaufShape → ℕ → ℕ → ℕ → ℕ → Option VorlaufVerdict
verdict_on w (LatestWerktageBefore n) t a c r = not_after w r c (add w t n)
verdict_on w (WindowWerktageBefore earliest latest) t a c r =
    on_step None (sub w a earliest) (λ opens.
    cond (ltb t opens) (Some (TooEarly (between w t opens)))
    (not_after w r c (add w t latest)))
verdict_on w (LatestWerktageAfter n) t a c r = not_after w r c (Some a)
verdict_on w (EarliestWerktageAfter n) t a c r = not_after w r c (Some r)
verdict_on w (Korridor n) t a c r =
    on_step None (sub w a n) (λ opens.
    cond (ltb t opens) (Some (TooEarly (between w t opens)))
    (not_after w r c (Some opens)))
verdict_on w TagVorDemLetztenWerktagVor t a c r = not_after w r c
    (fruehester_termin_nach_tag_vor_dem_letzten_werktag w t)
verdict_on w (LatestMonateBefore n) t a c r =
    on_step None (months_later t n) (λ first.
    not_after w r c (Some first))
verdict_on w (LatestMonateUndWerktageBefore monate werktage) t a c r =
    on_step None (add w t werktage) (λ d.
    on_step None (months_later d monate) (λ first.
    not_after w r c (Some first)))

-- 'Verdicts: .. 8, a date that the Rust computes for this call leaves the calendar.'
unfoldable pub check_of : (ℕ → Bool) → VorlaufShape → ℕ → ℕ → Option VorlaufVerdict
unfolding closes reaches
check_of w s t a = on_step None (closes w s a) (λ c. on_step None (reaches w s t) (λ r. verdict_on w s t a c r))
