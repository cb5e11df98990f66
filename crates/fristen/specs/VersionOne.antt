-- Version one of the CONTRL rule: when a message is due, by when it would be due before the tolerance. The two windows
-- are those of the year of that due instant.
--   due_year due    = the year of the Berlin day of a due instant
--   OnDue P         P holds of each receipt, its occasion, and when it is due before the tolerance
--   OnDueOutside P  P holds of these where that instant is in neither window of its year
--   VersionOneMovesSpring         what is due in the window of 1 April is due on 2 April at 00:00
--   VersionOneMovesAutumn         what is due in the window of 1 October is due on 2 October at 00:00
--   VersionOneLeavesOutside       what is due in neither window stays
--   VersionOneRefusesIfOutside    refused as Outside exactly if it would be without the tolerance
use Rattle.std.specs.Prelude.{ℕ, ◌≡◌, ◌↔◌, true, false, Ok, Err}
use Rattle.datum.specs.Calendar.{date_of}
use Rattle.berlin.specs.declared.Moment.{Moment}
use Rattle.berlin.specs.Berlin.{berlin_date, berlin_midnight}
use Rattle.berlin.specs.Inside.{Proper}
use Rattle.fristen.specs.declared.ContrlAnlass.{ContrlAnlass}
use Rattle.fristen.specs.declared.NoDue.TheVariants.{Outside}
use Rattle.fristen.specs.Fristen.{before_tolerance, day_on, contrl_due_at}
use Rattle.fristen.specs.Windows.{spring_window, autumn_window}

abbrev pub due_year : Moment → ℕ
due_year due = (date_of (berlin_date due)).year

abbrev pub OnDue : (Moment → ContrlAnlass → Moment → Type 0) → Type 0
OnDue P =
    (received : Moment) (anlass : ContrlAnlass) (due : Moment) → Proper received →
    before_tolerance received anlass ≡ Ok due → P received anlass due

abbrev pub OnDueOutside : (Moment → ContrlAnlass → Moment → Type 0) → Type 0
OnDueOutside P =
    OnDue (λ received anlass due. spring_window (due_year due) due ≡ false →
    autumn_window (due_year due) due ≡ false → P received anlass due)

abbrev pub VersionOneMovesSpring : Type 0
VersionOneMovesSpring =
    OnDue (λ received anlass due. spring_window (due_year due) due ≡ true →
    contrl_due_at received anlass ≡ Ok (berlin_midnight (day_on (due_year due) 4 2)))

abbrev pub VersionOneMovesAutumn : Type 0
VersionOneMovesAutumn =
    OnDue (λ received anlass due. autumn_window (due_year due) due ≡ true →
    contrl_due_at received anlass ≡ Ok (berlin_midnight (day_on (due_year due) 10 2)))

abbrev pub VersionOneLeavesOutside : Type 0
VersionOneLeavesOutside = OnDueOutside (λ received anlass due. contrl_due_at received anlass ≡ Ok due)

abbrev pub VersionOneRefusesIfOutside : Type 0
VersionOneRefusesIfOutside =
    (received : Moment) (anlass : ContrlAnlass) →
    (contrl_due_at received anlass ≡ Err Outside) ↔ (before_tolerance received anlass ≡ Err Outside)
