-- Whether an announcement kept its Frist. m is the instant at which it was received, i the day with which the Zuordnung
-- begins, w any test of a day.
--   is_by_thirteen e m                  = whether m is not after 13:00 of the day e
--   eog_ankuendigung_fristgerecht w m i = yes, no or neither; None if the last Werktag before i leaves the calendar
-- Source: GPKE Teil 2 Kap. 2.3.2.2 Nr. 1: 'sofern der Zuordnungsbeginn des E/G in der Zukunft liegt, gilt: Frühester ÜZ
-- ist 00:00 Uhr und spätester 13:00 Uhr des letzten WT vor dem Zuordnungsbeginn des E/G'; document 01, vorlauf.rs.
use Rattle.std.specs.Prelude.{ℕ, Bool, false, not, ◌&&◌, cond, eqb, Option, Some, None}
use Rattle.zaehlung.specs.Walk.{on_step, sub}
use Rattle.berlin.specs.declared.Moment.{Moment}
use Rattle.berlin.specs.Berlin.{o_clock, is_before, berlin_date, berlin_at, on_resolved, berlin_midnight}
use Rattle.ankuendigung.specs.declared.Fristgerecht.{Fristgerecht}
use Rattle.ankuendigung.specs.declared.Fristgerecht.TheVariants.{Nein, Ja, Weder}

-- '13:00 exactly is yes'; 13:00 is never absent
unfoldable pub is_by_thirteen : ℕ → Moment → Bool
is_by_thirteen e m = on_resolved false (berlin_at e (o_clock 13)) (λ a. not (is_before a m))

-- 'From midnight of the beginning on the answer is neither yes nor no'; '8 for the last Werktag, only if the instant is
-- before the beginning'
unfoldable pub eog_ankuendigung_fristgerecht : (ℕ → Bool) → Moment → ℕ → Option Fristgerecht
eog_ankuendigung_fristgerecht w m i =
    cond (is_before m (berlin_midnight i))
    (on_step None (sub w i 1) (λ e. Some (cond (eqb (berlin_date m) e && is_by_thirteen e m) Ja Nein)))
    (Some Weder)
