-- What the calls of the calendar answer: their refusals in the paper's order, all but 1, and else the fields that they
-- fill. w is the test of a day, a Werktag by some list, and why the reason that it has by that list.
--   is_werktag_answer why d       = the reason of d as kind
--   next_werktag_answer w d       = the first Werktag on or after d
--   add_werktage_answer w d n, sub_werktage_answer w d n = the n-th Werktag after d, before d
--   werktage_between_answer w d e = the Werktage after d up to and including e, and the days tested
--   add_months_answer d n, subtract_months_answer d n = d shifted by n months
-- Source: document 01, 'Host calls and their refusals': 'Calendar steps and counts: 3, a given date is no date of the
-- range; 8, a result leaves the calendar'; 'A step fills the date, a count the count'; document 02, F-2: 'Its kind byte
-- gives a reason now, not yes or no'; F-3: 'A count reports how many days it tested'.
-- Assumes nothing.
use Rattle.std.specs.Prelude.{ℕ, Bool, Result, Ok}
use Rattle.zaehlung.specs.Walk.{add, sub, next, between}
use Rattle.datum.specs.declared.Date.{Date}
use Rattle.datum.specs.Calendar.{index_of}
use Rattle.datum.specs.MonthShift.{add_months, subtract_months}
use Rattle.schritte.specs.Tested.{days_tested}
use Rattle.antwortsatz.specs.declared.Answer.{Answer}
use Rattle.antwortsatz.specs.declared.Refusal.{Refusal}
use Rattle.antwortsatz.specs.Answers.{of_kind, counted}
use Rattle.antworten.specs.Reading.{on_date, step_answer, shift_answer}

unfoldable pub is_werktag_answer : (ℕ → ℕ) → Date → Result Answer Refusal
is_werktag_answer why d = on_date (index_of d) (λ i. Ok (of_kind (why i)))

unfoldable pub next_werktag_answer : (ℕ → Bool) → Date → Result Answer Refusal
next_werktag_answer w d = on_date (index_of d) (λ i. step_answer (next w i))

unfoldable pub add_werktage_answer : (ℕ → Bool) → Date → ℕ → Result Answer Refusal
add_werktage_answer w d n = on_date (index_of d) (λ i. step_answer (add w i n))

unfoldable pub sub_werktage_answer : (ℕ → Bool) → Date → ℕ → Result Answer Refusal
sub_werktage_answer w d n = on_date (index_of d) (λ i. step_answer (sub w i n))

unfoldable pub werktage_between_answer : (ℕ → Bool) → Date → Date → Result Answer Refusal
werktage_between_answer w d e =
    on_date (index_of d) (λ i. on_date (index_of e) (λ j. Ok (counted (between w i j) (days_tested i j))))

unfoldable pub add_months_answer : Date → ℕ → Result Answer Refusal
add_months_answer d n = on_date (index_of d) (λ i. shift_answer (add_months d n))

unfoldable pub subtract_months_answer : Date → ℕ → Result Answer Refusal
subtract_months_answer d n = on_date (index_of d) (λ i. shift_answer (subtract_months d n))
