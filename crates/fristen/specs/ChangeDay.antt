-- Version two of the CONTRL rule takes the change day from the caller: its window runs from 18:00 of the day before to
-- 00:00 of the day after, and there is no other. With a change day of 1 April or 1 October of the year in which a
-- message is due before the tolerance, it is held against version one.
--   OnChangeDue P            P holds of each receipt, its occasion, when it is due before the tolerance, and each
--                            change day that has a day before and one after
-- Version two:
--   ChangeIsRefusedIfOutside   refused as Outside exactly if it would be without the tolerance, or if the change day is
--                            the calendar's first or last, or later
--   ChangeWindowDueMoves     what is due in the change day's window is due at its end
--   ChangeWindowElseStays    what is due outside of that window stays
--   ChangeDayDueMoves        so what is due on the change day is moved
--   OtherDayDueStays         and what is due on another day stays, but for the day before
-- With a change day of 1 April or 1 October of the year in which a message is due before the tolerance:
--   AprilAgreesOffAutumn OctoberAgreesOffSpring     both versions agree exactly if the due instant is not in the other
--                            window of version one
--   AprilAgreesInSpring OctoberAgreesInAutumn       so they agree in the change day's window
--   AprilLeavesAutumn OctoberLeavesSpring           in the other window version two leaves the due instant
--   AprilLeavesOutside OctoberLeavesOutside         and in neither window it leaves it too, as version one does
use Rattle.std.specs.Prelude.{ℕ, suc, ◌-◌, ◌<◌, ◌≤◌, ◌≡◌, ◌↔◌, ◌⊎◌, true, false, Ok, Err}
use Rattle.zaehlung.specs.Walk.{last}
use Rattle.berlin.specs.declared.Moment.{Moment}
use Rattle.berlin.specs.Berlin.{berlin_date, berlin_midnight}
use Rattle.fristen.specs.declared.ContrlAnlass.{ContrlAnlass}
use Rattle.fristen.specs.declared.NoDue.TheVariants.{Outside}
use Rattle.fristen.specs.Fristen.{before_tolerance, day_on, contrl_due_at, contrl_due_at_change}
use Rattle.fristen.specs.Windows.{ShowsWindow, spring_window, autumn_window}
use Rattle.fristen.specs.VersionOne.{due_year, OnDue, OnDueOutside}

abbrev pub OnChangeDue : (Moment → ContrlAnlass → Moment → ℕ → Type 0) → Type 0
OnChangeDue P =
    OnDue (λ received anlass due. (change_day : ℕ) → 1 ≤ change_day → change_day < last →
    P received anlass due change_day)

abbrev pub ChangeIsRefusedIfOutside : Type 0
ChangeIsRefusedIfOutside =
    (received : Moment) (anlass : ContrlAnlass) (change_day : ℕ) →
    (contrl_due_at_change received anlass change_day ≡ Err Outside)
    ↔ ((before_tolerance received anlass ≡ Err Outside) ⊎ ((change_day ≡ 0) ⊎ (last ≤ change_day)))

abbrev pub ChangeWindowDueMoves : Type 0
ChangeWindowDueMoves =
    OnChangeDue (λ received anlass due change_day. ShowsWindow (change_day - 1) (suc change_day) due →
    contrl_due_at_change received anlass change_day ≡ Ok (berlin_midnight (suc change_day)))

abbrev pub ChangeWindowElseStays : Type 0
ChangeWindowElseStays =
    OnChangeDue (λ received anlass due change_day. (ShowsWindow (change_day - 1) (suc change_day) due → ⊥) →
    contrl_due_at_change received anlass change_day ≡ Ok due)

abbrev pub ChangeDayDueMoves : Type 0
ChangeDayDueMoves =
    OnChangeDue (λ received anlass due change_day. berlin_date due ≡ change_day →
    contrl_due_at_change received anlass change_day ≡ Ok (berlin_midnight (suc change_day)))

abbrev pub OtherDayDueStays : Type 0
OtherDayDueStays =
    OnChangeDue (λ received anlass due change_day.
    (suc (berlin_date due) < change_day) ⊎ (change_day < berlin_date due) →
    contrl_due_at_change received anlass change_day ≡ Ok due)

abbrev pub AprilAgreesOffAutumn : Type 0
AprilAgreesOffAutumn =
    OnDue (λ received anlass due.
    (contrl_due_at_change received anlass (day_on (due_year due) 4 1) ≡ contrl_due_at received anlass)
    ↔ (autumn_window (due_year due) due ≡ false))

abbrev pub OctoberAgreesOffSpring : Type 0
OctoberAgreesOffSpring =
    OnDue (λ received anlass due.
    (contrl_due_at_change received anlass (day_on (due_year due) 10 1) ≡ contrl_due_at received anlass)
    ↔ (spring_window (due_year due) due ≡ false))

abbrev pub AprilAgreesInSpring : Type 0
AprilAgreesInSpring =
    OnDue (λ received anlass due. spring_window (due_year due) due ≡ true →
    contrl_due_at_change received anlass (day_on (due_year due) 4 1) ≡ contrl_due_at received anlass)

abbrev pub OctoberAgreesInAutumn : Type 0
OctoberAgreesInAutumn =
    OnDue (λ received anlass due. autumn_window (due_year due) due ≡ true →
    contrl_due_at_change received anlass (day_on (due_year due) 10 1) ≡ contrl_due_at received anlass)

abbrev pub AprilLeavesAutumn : Type 0
AprilLeavesAutumn =
    OnDue (λ received anlass due. autumn_window (due_year due) due ≡ true →
    contrl_due_at_change received anlass (day_on (due_year due) 4 1) ≡ Ok due)

abbrev pub OctoberLeavesSpring : Type 0
OctoberLeavesSpring =
    OnDue (λ received anlass due. spring_window (due_year due) due ≡ true →
    contrl_due_at_change received anlass (day_on (due_year due) 10 1) ≡ Ok due)

abbrev pub AprilLeavesOutside : Type 0
AprilLeavesOutside =
    OnDueOutside (λ received anlass due.
    contrl_due_at_change received anlass (day_on (due_year due) 4 1) ≡ Ok due)

abbrev pub OctoberLeavesOutside : Type 0
OctoberLeavesOutside =
    OnDueOutside (λ received anlass due.
    contrl_due_at_change received anlass (day_on (due_year due) 10 1) ≡ Ok due)
