-- What the calls for verdicts, spans and deregistrations share: their codes in order, and what was found as an answer.
--   vorlauf_shapes n m = the lead-time shapes with the counts n and m, in the order of their codes
--   eeg_marks          = the EEG marks in the order of their codes
--   judged_answer j    = a verdict with its margin
--   verdict_answer j   = the same, or refusal 8
--   abmeldung_answer j = that of a deregistration, or kind 3
--   ends_answer p      = a span; span_answer p = the same, or refusal 8
--   case_code v        = the code of a deregistration's case
--   announced_kind x   = the kind of yes, no or neither
--   announced_answer x = the same as an answer, or refusal 8
-- Source: document 01, 'Host calls and their refusals': 'Codes count from 0 in the Rust's order of its cases; an EEG
-- mark is 0 no, 1 yes, 2 unknown'.
-- Assumes nothing.
use Rattle.std.specs.Prelude.{ℕ, ℤ, List, [], ◌∷◌, Option, Some, None, Result, Ok, Err}
use Rattle.datum.specs.Calendar.{date_of}
use Rattle.vorlauf.specs.declared.VorlaufShape.{VorlaufShape}
use Rattle.vorlauf.specs.declared.VorlaufShape.TheVariants.{LatestWerktageBefore, WindowWerktageBefore}
use Rattle.vorlauf.specs.declared.VorlaufShape.TheVariants.{LatestWerktageAfter}
use Rattle.vorlauf.specs.declared.VorlaufShape.TheVariants.{EarliestWerktageAfter, Korridor}
use Rattle.vorlauf.specs.declared.VorlaufShape.TheVariants.{TagVorDemLetztenWerktagVor}
use Rattle.vorlauf.specs.declared.VorlaufShape.TheVariants.{LatestMonateBefore, LatestMonateUndWerktageBefore}
use Rattle.vorlauf.specs.declared.VorlaufVerdict.{VorlaufVerdict}
use Rattle.vorlauf.specs.declared.VorlaufVerdict.TheVariants.{Ok as InTime, TooLate, TooEarly}
use Rattle.vorlauf.specs.declared.Span.{Span}
use Rattle.vorlauf.specs.declared.Span.TheVariants.{From, Both, Empty}
use Rattle.vorlauf.specs.declared.abmeldung.Eeg.{Eeg}
use Rattle.vorlauf.specs.declared.abmeldung.Eeg.TheVariants.{Nein, Ja, Unbekannt}
use Rattle.vorlauf.specs.declared.abmeldung.AbmeldungVorlauf.{AbmeldungVorlauf}
use Rattle.vorlauf.specs.declared.abmeldung.AbmeldungVorlauf.TheVariants.{TagVorDemLetztenWerktag, EinMonat}
use Rattle.vorlauf.specs.declared.abmeldung.AbmeldungVorlauf.TheVariants.{Unbestimmt, AnPruefschritt120}
use Rattle.vorlauf.specs.declared.abmeldung.NoVerdict.{NoVerdict}
use Rattle.vorlauf.specs.declared.abmeldung.NoVerdict.TheVariants.{NoShape, Outside}
use Rattle.ankuendigung.specs.declared.Fristgerecht.{Fristgerecht}
use Rattle.ankuendigung.specs.declared.Fristgerecht.TheVariants.{Nein as No, Ja as Yes, Weder as Neither}
use Rattle.antwortsatz.specs.declared.Answer.{Answer}
use Rattle.antwortsatz.specs.declared.Refusal.{Refusal}
use Rattle.antwortsatz.specs.declared.Refusal.TheVariants.{LeavesCalendar}
use Rattle.antworten.specs.Reading.{on_read}
use Rattle.antwortsatz.specs.Answers.{of_kind, judged, spanned}

abbrev pub vorlauf_shapes : ℕ → ℕ → List VorlaufShape
vorlauf_shapes n m =
    LatestWerktageBefore n
    ∷ WindowWerktageBefore n m
    ∷ LatestWerktageAfter n
    ∷ EarliestWerktageAfter n
    ∷ Korridor n
    ∷ TagVorDemLetztenWerktagVor
    ∷ LatestMonateBefore n
    ∷ LatestMonateUndWerktageBefore n m
    ∷ []

abbrev pub eeg_marks : List Eeg
eeg_marks = Nein ∷ Ja ∷ Unbekannt ∷ []

-- 'Kind 0 Ok, 1 TooLate, 2 TooEarly'; 'A verdict has its Werktage in the count and its earliest date in the date';
-- document 02, F-6: 'Bytes 28 to 31 of a verdict's answer become a signed number'
abbrev pub judged_answer : VorlaufVerdict × ℤ → Answer
judged_answer (InTime, m) = judged 0 0 None m
judged_answer (TooLate b y, m) = judged 1 b (Some (date_of y)) m
judged_answer (TooEarly b, m) = judged 2 b None m

-- '8, a date that the Rust computes for this call leaves the calendar'; F-6: '8 also if the former', the last permitted
-- transmission day, 'leaves the calendar'
abbrev pub verdict_answer : Option (VorlaufVerdict × ℤ) → Result Answer Refusal
verdict_answer j = on_read LeavesCalendar j (λ x. Ok (judged_answer x))

-- '3 no shape'; 'No shape and refusals leave zero.'
abbrev pub abmeldung_answer : Result (VorlaufVerdict × ℤ) NoVerdict → Result Answer Refusal
abmeldung_answer (Ok j) = Ok (judged_answer j)
abmeldung_answer (Err NoShape) = Ok (of_kind 3)
abmeldung_answer (Err Outside) = Err LeavesCalendar

-- 'Kind 0 no last day, 1 both, 2 empty with both dates zero'
abbrev pub ends_answer : Span → Answer
ends_answer (From f) = spanned 0 (date_of f) None
ends_answer (Both f l) = spanned 1 (date_of f) (Some (date_of l))
ends_answer Empty = of_kind 2

-- '8, an end leaves the calendar'
abbrev pub span_answer : Option Span → Result Answer Refusal
span_answer p = on_read LeavesCalendar p (λ x. Ok (ends_answer x))

-- 'a deregistration reason the code of its `AbmeldungVorlauf` case'
abbrev pub case_code : AbmeldungVorlauf → ℕ
case_code TagVorDemLetztenWerktag = 0
case_code EinMonat = 1
case_code Unbestimmt = 2
case_code AnPruefschritt120 = 3

-- 'Kind 0 no, 1 yes, 2 neither'
abbrev pub announced_kind : Fristgerecht → ℕ
announced_kind No = 0
announced_kind Yes = 1
announced_kind Neither = 2

-- '8 for the last Werktag'
abbrev pub announced_answer : Option Fristgerecht → Result Answer Refusal
announced_answer x = on_read LeavesCalendar x (λ f. Ok (of_kind (announced_kind f)))
