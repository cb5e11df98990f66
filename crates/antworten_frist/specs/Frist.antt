-- What the calls answer that give a due instant: the instant i is the receipt, and w is the test of a day, a Werktag by
-- some list.
--   contrl_due_at_answer i x                 = when the CONTRL of the occasion with code x is due
--   contrl_due_at_change_answer i x d        = when it is due if the Formatumstellung is on the date d
--   aperak_strom_due_at_answer i             = when the Strom APERAK on a UTILMD or ORDERS is due
--   aperak_strom_allgemein_due_at_answer w i = when any other Strom APERAK is due
--   aperak_gas_folgeprozess_due_at_answer w i, aperak_gas_initialprozess_due_at_answer w i,
--     aperak_gas_due_at_answer w pid i
--                                            = when a Gas APERAK is due; kind 1 for the initial process
--   add_hours_answer i n                     = n hours later
--   deadline_at_werktage_answer w i n, end_of_werktag_after_answer w i n = the end of the n-th Werktag after the
--                                              receipt day
--   next_werktag_at_answer w i c, nth_werktag_at_answer w i n c = the clock c on the first, the n-th Werktag after the
--                                              receipt day
--   frist_due_at_answer w x n c i            = when an answer of the shape with code x, count n and clock c is due
-- Source: document 01, 'Due instants: 4; 5; 6 (`SameDayAt` only); 8, the due instant's day leaves the calendar'; 'a Gas
-- due instant kind 1 for the initial process, else 0'; 'Codes are always checked. A count, clock, date or instant that
-- the operation or its shape doesn't use is not checked.' Document 02, F-7.
-- Assumes nothing.
use Rattle.std.specs.Prelude.{ℕ, Bool, Option, Result}
use Rattle.datum.specs.declared.Date.{Date}
use Rattle.datum.specs.Calendar.{index_of}
use Rattle.fristen.specs.Fristen.{contrl_due_at, contrl_due_at_change, aperak_strom_due_at}
use Rattle.fristen.specs.Fristen.{aperak_strom_allgemein_due_at, aperak_gas_due_at}
use Rattle.fristen.specs.Fristen.{aperak_gas_folgeprozess_due_at, aperak_gas_initialprozess_due_at, gas_prozess}
use Rattle.fristen.specs.Fristen.{add_hours}
use Rattle.fristen.specs.Fristen.{deadline_at_werktage}
use Rattle.fristen.specs.Fristen.{end_of_werktag_after, next_werktag_at, nth_werktag_at}
use Rattle.fristen.specs.FristShape.{due_at_of}
use Rattle.antwortsatz.specs.declared.Answer.{Answer}
use Rattle.antwortsatz.specs.declared.Refusal.{Refusal}
use Rattle.antworten.specs.Reading.{on_code, on_date, on_instant, on_clock}
use Rattle.antworten_frist.specs.FristReading.{anlaesse, frist_shapes, on_shape, due_answer, prozess_kind}
use Rattle.berlin.specs.declared.Clock.{Clock}
use Rattle.berlin.specs.declared.Moment.{Moment}

unfoldable pub contrl_due_at_answer : Option Moment → ℕ → Result Answer Refusal
contrl_due_at_answer k x = on_code anlaesse x (λ a. on_instant k (λ m. due_answer 0 (contrl_due_at m a)))

-- F-7: 'Checks: 3 for the change day, before 4; 8 also where the day before or after the change day leaves the
-- calendar'
unfoldable pub contrl_due_at_change_answer : Option Moment → ℕ → Date → Result Answer Refusal
contrl_due_at_change_answer k x t =
    on_code anlaesse x
    (λ a. on_date (index_of t) (λ d. on_instant k (λ m. due_answer 0 (contrl_due_at_change m a d))))

unfoldable pub aperak_strom_due_at_answer : Option Moment → Result Answer Refusal
aperak_strom_due_at_answer k = on_instant k (λ m. due_answer 0 (aperak_strom_due_at m))

unfoldable pub aperak_strom_allgemein_due_at_answer : (ℕ → Bool) → Option Moment → Result Answer Refusal
aperak_strom_allgemein_due_at_answer w k = on_instant k (λ m. due_answer 0 (aperak_strom_allgemein_due_at w m))

unfoldable pub aperak_gas_folgeprozess_due_at_answer : (ℕ → Bool) → Option Moment → Result Answer Refusal
aperak_gas_folgeprozess_due_at_answer w k = on_instant k (λ m. due_answer 0 (aperak_gas_folgeprozess_due_at w m))

unfoldable pub aperak_gas_initialprozess_due_at_answer : (ℕ → Bool) → Option Moment → Result Answer Refusal
aperak_gas_initialprozess_due_at_answer w k = on_instant k (λ m. due_answer 1 (aperak_gas_initialprozess_due_at w m))

unfoldable pub aperak_gas_due_at_answer : (ℕ → Bool) → ℕ → Option Moment → Result Answer Refusal
aperak_gas_due_at_answer w pid k =
    on_instant k (λ m. due_answer (prozess_kind (gas_prozess pid)) (aperak_gas_due_at w pid m))

unfoldable pub add_hours_answer : Option Moment → ℕ → Result Answer Refusal
add_hours_answer k n = on_instant k (λ m. due_answer 0 (add_hours m n))

unfoldable pub deadline_at_werktage_answer : (ℕ → Bool) → Option Moment → ℕ → Result Answer Refusal
deadline_at_werktage_answer w k n = on_instant k (λ m. due_answer 0 (deadline_at_werktage w m n))

unfoldable pub end_of_werktag_after_answer : (ℕ → Bool) → Option Moment → ℕ → Result Answer Refusal
end_of_werktag_after_answer w k n = on_instant k (λ m. due_answer 0 (end_of_werktag_after w m n))

unfoldable pub next_werktag_at_answer : (ℕ → Bool) → Option Moment → Option Clock → Result Answer Refusal
next_werktag_at_answer w k t = on_instant k (λ m. on_clock t (λ c. due_answer 0 (next_werktag_at w m c)))

unfoldable pub nth_werktag_at_answer : (ℕ → Bool) → Option Moment → ℕ → Option Clock → Result Answer Refusal
nth_werktag_at_answer w k n t = on_instant k (λ m. on_clock t (λ c. due_answer 0 (nth_werktag_at w m n c)))

-- a shape that uses a clock looks at it after the instant: 4 before 5
unfoldable pub frist_due_at_answer : (ℕ → Bool) → ℕ → ℕ → Option Clock → Option Moment → Result Answer Refusal
frist_due_at_answer w x n t k =
    on_code (frist_shapes n t) x (λ s. on_instant k (λ m. on_shape s (λ f. due_answer 0 (due_at_of w f m))))
