-- Both calls for a CONTRL agree wherever both versions of its rule do.
--   CallsAgreeWithVersions   where version two, with a change day, gives what version one does, the call that takes the
--                            date of the change day answers what the call without one does
use Rattle.std.specs.Prelude.{ℕ, ◌≡◌, Some, slice_get}
use Rattle.datum.specs.declared.Date.{Date}
use Rattle.datum.specs.Calendar.{index_of}
use Rattle.berlin.specs.declared.Moment.{Moment}
use Rattle.fristen.specs.declared.ContrlAnlass.{ContrlAnlass}
use Rattle.fristen.specs.Fristen.{contrl_due_at, contrl_due_at_change}
use Rattle.antworten_frist.specs.FristReading.{anlaesse}
use Rattle.antworten_frist.specs.Frist.{contrl_due_at_answer, contrl_due_at_change_answer}

abbrev pub CallsAgreeWithVersions : Type 0
CallsAgreeWithVersions =
    (received : Moment) (code day : ℕ) (change_day : Date) (anlass : ContrlAnlass) →
    slice_get anlaesse code ≡ Some anlass → index_of change_day ≡ Some day →
    contrl_due_at_change received anlass day ≡ contrl_due_at received anlass →
    contrl_due_at_change_answer (Some received) code change_day ≡ contrl_due_at_answer (Some received) code
