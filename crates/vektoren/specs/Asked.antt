-- What the call answers that a stored question names.
--   stored_question bs = the question of the 64 bytes bs
--   stored_reason q    = the bytes of its reason; None where it is longer than its place
--   call_answers q     = what each call answers with the question's fields, in the order of the calls' numbers
--   stored_answer q    = what the call answers that the question names; None where no call has its number, or where its
--                        reason is longer than its place
use Rattle.std.specs.Prelude.{ℕ, Bool, List, [], ◌∷◌, get_or, take, drop, Option, Some, None, Result, nat_le}
use Rattle.std.specs.Prelude.{slice_get, if◌then◌else◌, option_map, option_and_then}
use Rattle.datum.specs.declared.Date.{Date}
use Rattle.werktag.specs.declared.HolidayCalendar.TheVariants.{BdewMaKo}
use Rattle.werktag.specs.Werktag.{is_werktag}
use Rattle.werktag.specs.Reason.{reason}
use Rattle.berlin.specs.declared.Moment.{Moment}
use Rattle.berlin.specs.declared.Clock.{Clock}
use Rattle.berlin.specs.Berlin.{read_instant, read_clock}
use Rattle.zahlen.specs.Places.{u16_at, u32_at, i64_at}
use Rattle.antwortsatz.specs.declared.Answer.{Answer}
use Rattle.antwortsatz.specs.declared.Refusal.{Refusal}
use Rattle.antworten.specs.Reading.{date_from}
use Rattle.antworten.specs.Kalender.{is_werktag_answer, next_werktag_answer, add_werktage_answer, sub_werktage_answer}
use Rattle.antworten.specs.Kalender.{werktage_between_answer, add_months_answer, subtract_months_answer}
use Rattle.antworten.specs.Uhrzeit.{berlin_at_answer, berlin_midnight_answer, end_of_day_berlin_answer}
use Rattle.antworten.specs.Uhrzeit.{tagesbeginn_utc_answer, berlin_date_answer, tag_des_beginns_answer}
use Rattle.antworten_frist.specs.Frist.{contrl_due_at_answer, contrl_due_at_change_answer}
use Rattle.antworten_frist.specs.Frist.{aperak_strom_due_at_answer, aperak_strom_allgemein_due_at_answer}
use Rattle.antworten_frist.specs.Frist.{aperak_gas_folgeprozess_due_at_answer}
use Rattle.antworten_frist.specs.Frist.{aperak_gas_initialprozess_due_at_answer, aperak_gas_due_at_answer}
use Rattle.antworten_frist.specs.Frist.{add_hours_answer, deadline_at_werktage_answer, end_of_werktag_after_answer}
use Rattle.antworten_frist.specs.Frist.{next_werktag_at_answer, nth_werktag_at_answer, frist_due_at_answer}
use Rattle.antworten_vorlauf.specs.Vorlauf.{vorlauf_check_answer, vorlauf_check_at_answer, vorlauf_span_answer}
use Rattle.antworten_vorlauf.specs.Vorlauf.{abmeldung_fuer_answer, abmeldung_check_answer}
use Rattle.antworten_vorlauf.specs.Vorlauf.{eog_ankuendigung_fristgerecht_answer}
use Rattle.vektoren.specs.declared.Question.{Question}

unfoldable pub stored_question : List ℕ → Question
stored_question bs =
    record {
      call = get_or bs 0 0;
      code = get_or bs 1 0;
      year = u16_at bs 4;
      month = get_or bs 6 0;
      day = get_or bs 7 0;
      year2 = u16_at bs 8;
      month2 = get_or bs 10 0;
      day2 = get_or bs 11 0;
      nanos_of_second = u32_at bs 8;
      count = u32_at bs 12;
      seconds = i64_at bs 16;
      nanos = u32_at bs 24;
      hour = get_or bs 28 0;
      minute = get_or bs 29 0;
      second = get_or bs 30 0;
      count2 = u32_at bs 32;
      seconds2 = i64_at bs 36;
      nanos2 = u32_at bs 44;
      code2 = get_or bs 48 0;
      reason_bytes = get_or bs 49 0;
      reason = take 14 (drop 50 bs);
    }

abbrev day_test : ℕ → Bool
day_test = is_werktag BdewMaKo

abbrev given_date : Question → Date
given_date q = date_from q.year q.month q.day

abbrev given_date2 : Question → Date
given_date2 q = date_from q.year2 q.month2 q.day2

abbrev given_instant : Question → Option Moment
given_instant q = read_instant q.seconds q.nanos

abbrev given_instant2 : Question → Option Moment
given_instant2 q = read_instant q.seconds2 q.nanos2

abbrev given_clock : Question → Option Clock
given_clock q = read_clock q.hour q.minute q.second q.nanos_of_second

abbrev pub stored_reason : Question → Option (List ℕ)
stored_reason q = if nat_le q.reason_bytes 14 then Some (take q.reason_bytes q.reason) else None

abbrev pub call_answers : Question → List (Option (Result Answer Refusal))
call_answers q =
    Some (is_werktag_answer (reason BdewMaKo) (given_date q)) ∷
    Some (next_werktag_answer day_test (given_date q)) ∷
    Some (add_werktage_answer day_test (given_date q) q.count) ∷
    Some (sub_werktage_answer day_test (given_date q) q.count) ∷
    Some (werktage_between_answer day_test (given_date q) (given_date2 q)) ∷
    Some (add_months_answer (given_date q) q.count) ∷
    Some (subtract_months_answer (given_date q) q.count) ∷
    Some (berlin_at_answer (given_date q) (given_clock q)) ∷
    Some (berlin_midnight_answer (given_date q)) ∷
    Some (end_of_day_berlin_answer (given_date q)) ∷
    Some (tagesbeginn_utc_answer (given_date q) q.code) ∷
    Some (berlin_date_answer (given_instant q)) ∷
    Some (tag_des_beginns_answer (given_instant q) q.code) ∷
    Some (contrl_due_at_answer (given_instant q) q.code) ∷
    Some (aperak_strom_due_at_answer (given_instant q)) ∷
    Some (aperak_strom_allgemein_due_at_answer day_test (given_instant q)) ∷
    Some (aperak_gas_folgeprozess_due_at_answer day_test (given_instant q)) ∷
    Some (aperak_gas_initialprozess_due_at_answer day_test (given_instant q)) ∷
    Some (aperak_gas_due_at_answer day_test q.count (given_instant q)) ∷
    Some (add_hours_answer (given_instant q) q.count) ∷
    Some (deadline_at_werktage_answer day_test (given_instant q) q.count) ∷
    Some (end_of_werktag_after_answer day_test (given_instant q) q.count) ∷
    Some (next_werktag_at_answer day_test (given_instant q) (given_clock q)) ∷
    Some (nth_werktag_at_answer day_test (given_instant q) q.count (given_clock q)) ∷
    Some (frist_due_at_answer day_test q.code q.count (given_clock q) (given_instant q)) ∷
    Some (vorlauf_check_answer day_test q.code q.count q.count2 (given_date q) (given_date2 q)) ∷
    Some (vorlauf_check_at_answer day_test q.code q.count q.count2 q.code2 (given_instant q) (given_instant2 q)) ∷
    Some (vorlauf_span_answer day_test q.code q.count q.count2 (given_date q)) ∷
    option_map (λ r. abmeldung_fuer_answer r q.code) (stored_reason q) ∷
    option_map (λ r. abmeldung_check_answer day_test r q.code (given_date q) (given_date2 q)) (stored_reason q) ∷
    Some (eog_ankuendigung_fristgerecht_answer day_test (given_instant q) (given_date q)) ∷
    Some (contrl_due_at_change_answer (given_instant q) q.code (given_date q)) ∷
    []

unfoldable pub stored_answer : Question → Option (Result Answer Refusal)
stored_answer q = option_and_then (λ a. a) (slice_get (call_answers q) q.call)
