-- What the calls answer that give a verdict, a span, a deregistration's case or the announcement's yes or no. w is the
-- test of a day: a Werktag by some list.
--   vorlauf_check_answer w x n m d e      = the verdict of the shape with code x and counts n, m on transmission date d
--                                           and anchor e
--   check_at_instants w s q k l           = the verdict for a transmission instant k and an anchor l that begins a day
--                                           in the Sparte q
--   vorlauf_check_at_answer w x n m p k l = the same with codes
--   vorlauf_span_answer w x n m d         = the span of a shape for transmission date d
--   abmeldung_fuer_answer b x             = the case of a deregistration with reason b and the EEG mark with code x
--   abmeldung_check_answer w b x d e      = its verdict, or kind 3
--   eog_ankuendigung_fristgerecht_answer w k d = whether an announcement received at k keeps its Frist for the
--                                           beginning d
-- Source: document 01, 'Verdicts: 3; 8, a date that the Rust computes for this call leaves the calendar. Kind 0 Ok, 1
-- TooLate, 2 TooEarly, 3 no shape. With a transmission instant and an anchor given as a day's beginning (added): 4 for
-- either, 7 for the anchor, 8'; 'Span: 3; 8, an end leaves the calendar. Kind 0 no last day, 1 both, 2 empty with both
-- dates zero'; 'The 13:00 announcement: 3; 4; 8 for the last Werktag, only if the instant is before the beginning. Kind
-- 0 no, 1 yes, 2 neither'; 'A deregistration's two dates are checked even where it has no shape.'
-- Assumes nothing.
use Rattle.std.specs.Prelude.{ℕ, Bool, List, Option, Result, Ok}
use Rattle.datum.specs.declared.Date.{Date}
use Rattle.datum.specs.Calendar.{index_of}
use Rattle.berlin.specs.declared.Sparte.{Sparte}
use Rattle.berlin.specs.Berlin.{berlin_date, tag_des_beginns}
use Rattle.vorlauf.specs.declared.VorlaufShape.{VorlaufShape}
use Rattle.vorlauf.specs.Margin.{judgement_of}
use Rattle.vorlauf.specs.Span.{span_of}
use Rattle.vorlauf.specs.Abmeldung.{fuer_of, abmeldung_check_of}
use Rattle.ankuendigung.specs.Ankuendigung.{eog_ankuendigung_fristgerecht}
use Rattle.antwortsatz.specs.declared.Answer.{Answer}
use Rattle.antwortsatz.specs.declared.Refusal.{Refusal}
use Rattle.antwortsatz.specs.Answers.{of_kind}
use Rattle.antworten.specs.Reading.{on_code, sparten, on_date, on_instant, on_beginn}
use Rattle.antworten_vorlauf.specs.VorlaufReading.{vorlauf_shapes, eeg_marks, case_code}
use Rattle.antworten_vorlauf.specs.VorlaufReading.{verdict_answer, abmeldung_answer, span_answer, announced_answer}
use Rattle.berlin.specs.declared.Moment.{Moment}

unfoldable pub vorlauf_check_answer : (ℕ → Bool) → ℕ → ℕ → ℕ → Date → Date → Result Answer Refusal
vorlauf_check_answer w x n m d e =
    on_code (vorlauf_shapes n m) x (λ s. on_date (index_of d) (λ t. on_date (index_of e) (λ a.
    verdict_answer (judgement_of w s t a))))

-- the transmission day is the Berlin day in both Sparten; only the anchor goes by the Sparte
unfoldable pub check_at_instants :
    (ℕ → Bool) → VorlaufShape → Sparte → Option Moment → Option Moment → Result Answer Refusal
check_at_instants w s q k l =
    on_instant k (λ r. on_instant l (λ b. on_beginn (tag_des_beginns b q) (λ a.
    verdict_answer (judgement_of w s (berlin_date r) a))))

unfoldable pub vorlauf_check_at_answer :
    (ℕ → Bool) → ℕ → ℕ → ℕ → ℕ → Option Moment → Option Moment → Result Answer Refusal
vorlauf_check_at_answer w x n m p k l =
    on_code (vorlauf_shapes n m) x (λ s. on_code sparten p (λ q. check_at_instants w s q k l))

unfoldable pub vorlauf_span_answer : (ℕ → Bool) → ℕ → ℕ → ℕ → Date → Result Answer Refusal
vorlauf_span_answer w x n m d =
    on_code (vorlauf_shapes n m) x (λ s. on_date (index_of d) (λ t. span_answer (span_of w s t)))

unfoldable pub abmeldung_fuer_answer : List ℕ → ℕ → Result Answer Refusal
abmeldung_fuer_answer b x = on_code eeg_marks x (λ g. Ok (of_kind (case_code (fuer_of b g))))

unfoldable pub abmeldung_check_answer : (ℕ → Bool) → List ℕ → ℕ → Date → Date → Result Answer Refusal
abmeldung_check_answer w b x d e =
    on_code eeg_marks x (λ g. on_date (index_of d) (λ t. on_date (index_of e) (λ a.
    abmeldung_answer (abmeldung_check_of w (fuer_of b g) t a))))

unfoldable pub eog_ankuendigung_fristgerecht_answer : (ℕ → Bool) → Option Moment → Date → Result Answer Refusal
eog_ankuendigung_fristgerecht_answer w k d =
    on_date (index_of d) (λ i. on_instant k (λ m. announced_answer (eog_ankuendigung_fristgerecht w m i)))
