-- What the calls answer that put a clock on a date, or ask for the day of an instant.
--   berlin_at_answer d c       = the instant at which the Berlin clock shows c on d
--   berlin_midnight_answer d   = the first instant of d
--   end_of_day_berlin_answer d = the last instant of d
--   tagesbeginn_utc_answer d x = the instant at which d begins in the Sparte with code x
--   berlin_date_answer i       = the Berlin date of the instant i
--   tag_des_beginns_answer i x = the date of the day that begins at i in the Sparte with code x
-- Source: document 01, 'Clock on a date: 3; 5, hour over 23, minute or second over 59, nanoseconds over 999,999,999; 6,
-- local time absent'; 'Day of an instant: 4, instant outside its limits; 7, not the beginning of a day in that Sparte
-- (beginnings only)'; 'Any call: .. 2, a code is unknown'.
-- Assumes nothing.
use Rattle.std.specs.Prelude.{ℕ, Option, Result, Ok}
use Rattle.datum.specs.declared.Date.{Date}
use Rattle.datum.specs.Calendar.{index_of, date_of}
use Rattle.berlin.specs.Berlin.{berlin_date, berlin_at, berlin_midnight, end_of_day_berlin, tagesbeginn_utc}
use Rattle.berlin.specs.Berlin.{tag_des_beginns}
use Rattle.antwortsatz.specs.declared.Answer.{Answer}
use Rattle.antwortsatz.specs.declared.Refusal.{Refusal}
use Rattle.antwortsatz.specs.Answers.{dated}
use Rattle.antworten.specs.Reading.{on_code, sparten, on_date, on_instant, on_clock, moment_answer, resolved_answer}
use Rattle.antworten.specs.Reading.{beginn_answer}
use Rattle.berlin.specs.declared.Clock.{Clock}
use Rattle.berlin.specs.declared.Moment.{Moment}

unfoldable pub berlin_at_answer : Date → Option Clock → Result Answer Refusal
berlin_at_answer d k = on_date (index_of d) (λ i. on_clock k (λ c. resolved_answer (berlin_at i c)))

unfoldable pub berlin_midnight_answer : Date → Result Answer Refusal
berlin_midnight_answer d = on_date (index_of d) (λ i. Ok (moment_answer 0 (berlin_midnight i)))

unfoldable pub end_of_day_berlin_answer : Date → Result Answer Refusal
end_of_day_berlin_answer d = on_date (index_of d) (λ i. Ok (moment_answer 0 (end_of_day_berlin i)))

unfoldable pub tagesbeginn_utc_answer : Date → ℕ → Result Answer Refusal
tagesbeginn_utc_answer d x =
    on_code sparten x (λ p. on_date (index_of d) (λ i. Ok (moment_answer 0 (tagesbeginn_utc i p))))

unfoldable pub berlin_date_answer : Option Moment → Result Answer Refusal
berlin_date_answer k = on_instant k (λ m. Ok (dated (date_of (berlin_date m))))

unfoldable pub tag_des_beginns_answer : Option Moment → ℕ → Result Answer Refusal
tag_des_beginns_answer k x = on_code sparten x (λ p. on_instant k (λ m. beginn_answer (tag_des_beginns m p)))
