-- What the calls for due instants share: their codes in order, and a due instant as an answer.
--   anlaesse         = the occasions of a CONTRL in the order of their codes
--   frist_shapes n k = the shapes in the order of their codes, with the count n and the clock that was read
--   with_clock k f   = the shape f of that clock
--   on_shape s f     = f of the shape that was read, or refusal 5 where it uses a clock and that is none
--   due_answer k r   = a due instant beside kind k, or refusal 6 or 8
--   prozess_kind p   = the kind of a Gas process
-- Source: document 01, 'Host calls and their refusals': 'Codes count from 0 in the Rust's order of its cases'; 'A
-- count, clock, date or instant that the operation or its shape doesn't use is not checked.'
-- Assumes nothing.
use Rattle.std.specs.Prelude.{ℕ, List, [], ◌∷◌, Option, Some, None, Result, Ok, Err}
use Rattle.berlin.specs.declared.Clock.{Clock}
use Rattle.fristen.specs.declared.ContrlAnlass.{ContrlAnlass}
use Rattle.fristen.specs.declared.ContrlAnlass.TheVariants.{Regelfall, StromUtilmdOderOrders, GasAlocat}
use Rattle.fristen.specs.declared.FristShape.{FristShape}
use Rattle.fristen.specs.declared.FristShape.TheVariants.{WerktagAt, EndOfWerktag, SameDayAt, SameDay}
use Rattle.antwortsatz.specs.declared.Answer.{Answer}
use Rattle.fristen.specs.declared.NoDue.TheVariants.{Absent, Outside}
use Rattle.fristen.specs.declared.GasProzess.{GasProzess}
use Rattle.fristen.specs.declared.GasProzess.TheVariants.{Initialprozess, Folgeprozess}
use Rattle.antwortsatz.specs.declared.Refusal.{Refusal}
use Rattle.antwortsatz.specs.declared.Refusal.TheVariants.{NoClock, LocalTimeAbsent, LeavesCalendar}
use Rattle.antworten.specs.Reading.{on_read, moment_answer}
use Rattle.berlin.specs.declared.Moment.{Moment}
use Rattle.fristen.specs.declared.NoDue.{NoDue}

abbrev pub anlaesse : List ContrlAnlass
anlaesse = Regelfall ∷ StromUtilmdOderOrders ∷ GasAlocat ∷ []

abbrev pub with_clock : Option Clock → (Clock → FristShape) → Option FristShape
with_clock (Some c) f = Some (f c)
with_clock None f = None

abbrev pub frist_shapes : ℕ → Option Clock → List (Option FristShape)
frist_shapes n k =
    with_clock k (WerktagAt n) ∷ Some (EndOfWerktag n) ∷ with_clock k SameDayAt ∷ Some SameDay ∷ []

abbrev pub on_shape : Option FristShape → (FristShape → Result Answer Refusal) → Result Answer Refusal
on_shape s f = on_read NoClock s f

-- 'Due instants: 4; 5; 6 (`SameDayAt` only); 8, the due instant's day leaves the calendar'
abbrev pub due_answer : ℕ → Result Moment NoDue → Result Answer Refusal
due_answer k (Ok m) = Ok (moment_answer k m)
due_answer k (Err Absent) = Err LocalTimeAbsent
due_answer k (Err Outside) = Err LeavesCalendar

-- 'a Gas due instant [has] kind 1 for the initial process, else 0'
abbrev pub prozess_kind : GasProzess → ℕ
prozess_kind Initialprozess = 1
prozess_kind Folgeprozess = 0
