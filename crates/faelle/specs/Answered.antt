-- What the cases A to M ask of the calls, in the definitions that the calls are proved to compute.
--   day_2026 m d        = the date of 2026 with this month and day; werktag_2026, the test of a day by the list
--   left_by a           = the number that a call returns and the 32 bytes that it leaves if a is its answer
--   LeavesAs a e        = a call with the answer a leaves the same as one with the answer e
--   line_of letter ok   = the line of a case: its letter, a space, `ok` or `no`, and the line end
--   AnswersA .. AnswersM = the call of the case answers as the case says; A is Easter Sunday
use Rattle.std.specs.Prelude.{◌≡◌, ℕ, Bool, List, [], ◌∷◌, ◌++◌, codes, if◌then◌else◌}
use Rattle.std.specs.Prelude.{replicate, ℤ, pos, negsuc, Some, None, Result, Ok, Err}
use Rattle.datum.specs.declared.Date.{Date}
use Rattle.datum.specs.Calendar.{date_of}
use Rattle.werktag.specs.declared.HolidayCalendar.TheVariants.{BdewMaKo}
use Rattle.werktag.specs.Easter.{easter_index}
use Rattle.werktag.specs.Werktag.{is_werktag}
use Rattle.werktag.specs.declared.feiertage.Reason.{Reason}
use Rattle.werktag.specs.declared.feiertage.Reason.TheVariants.{BussUndBettag}
use Rattle.werktag.specs.Reason.{reason_number, reason}
use Rattle.berlin.specs.Berlin.{read_instant, read_clock}
use Rattle.antwortsatz.specs.declared.Answer.{Answer}
use Rattle.antwortsatz.specs.declared.Refusal.{Refusal}
use Rattle.antwortsatz.specs.declared.Refusal.TheVariants.{LocalTimeAbsent}
use Rattle.antwortsatz.specs.Answers.{of_kind, dated, at_instant, judged, spanned}
use Rattle.antwortsatz.specs.Bytes.{reply}
use Rattle.antworten.specs.Kalender.{is_werktag_answer, add_werktage_answer}
use Rattle.antworten.specs.Uhrzeit.{berlin_at_answer, tagesbeginn_utc_answer}
use Rattle.antworten_frist.specs.Frist.{contrl_due_at_answer, frist_due_at_answer}
use Rattle.antworten_vorlauf.specs.Vorlauf.{vorlauf_check_answer, vorlauf_span_answer}
use Rattle.antworten_vorlauf.specs.Vorlauf.{eog_ankuendigung_fristgerecht_answer}

abbrev pub day_2026 : ℕ → ℕ → Date
day_2026 m d = record { year = 2026; month = m; day = d }

abbrev pub left_by : Result Answer Refusal → ℕ × List ℕ
left_by a = reply (replicate 32 1) a

abbrev pub LeavesAs : Result Answer Refusal → Result Answer Refusal → Type 0
LeavesAs a e = left_by a ≡ left_by e

abbrev pub werktag_2026 : ℕ → Bool
werktag_2026 = is_werktag BdewMaKo

abbrev pub line_of : ℕ → Bool → List ℕ
line_of letter ok = letter ∷ 32 ∷ ((if ok then codes "ok" else codes "no") ++ 10 ∷ [])

-- Easter Sunday of a year is the date
abbrev pub IsEaster : ℕ → Date → Type 0
IsEaster year date = date_of (easter_index year) ≡ date

-- a date of 2026 is closed by the reason
abbrev pub IsClosed : ℕ → ℕ → Reason → Type 0
IsClosed m d why = LeavesAs (is_werktag_answer (reason BdewMaKo) (day_2026 m d)) (Ok (of_kind (reason_number why)))

-- so many Werktage lead from one date to the other
abbrev pub IsAdded : Date → ℕ → Date → Type 0
IsAdded from n to = LeavesAs (add_werktage_answer werktag_2026 from n) (Ok (dated to))

-- the Gas day of a date begins at that second
abbrev pub IsGasBeginning : Date → ℤ → Type 0
IsGasBeginning date second = LeavesAs (tagesbeginn_utc_answer date 1) (Ok (at_instant 0 second 0))

-- of `SameDayAt` some full hour
abbrev pub IsSameDayDue : ℕ → ℤ → Answer → Type 0
IsSameDayDue hour received a =
    LeavesAs (frist_due_at_answer werktag_2026 2 0 (read_clock hour 0 0 0) (read_instant received 0)) (Ok a)

-- the answer of a verdict on two dates of 2026, for a shape and its count
abbrev pub IsJudged : ℕ → ℕ → Date → Date → Answer → Type 0
IsJudged shape n d e a = LeavesAs (vorlauf_check_answer werktag_2026 shape n 0 d e) (Ok a)

-- of a span, for a shape and its two counts
abbrev pub IsSpanned : ℕ → ℕ → ℕ → Date → Answer → Type 0
IsSpanned shape n m d a = LeavesAs (vorlauf_span_answer werktag_2026 shape n m d) (Ok a)

-- of a CONTRL of the Regelfall
abbrev pub IsContrlDue : ℤ → Answer → Type 0
IsContrlDue received a = LeavesAs (contrl_due_at_answer (read_instant received 0) 0) (Ok a)

-- of half past two on a date of 2026
abbrev pub IsHalfPastTwo : ℕ → ℕ → Result Answer Refusal → Type 0
IsHalfPastTwo m d a = LeavesAs (berlin_at_answer (day_2026 m d) (read_clock 2 30 0 0)) a

-- of an announcement for 12 January
abbrev pub IsAnnounced : ℤ → ℕ → ℕ → Type 0
IsAnnounced seconds nanos kind =
    LeavesAs (eog_ankuendigung_fristgerecht_answer werktag_2026 (read_instant seconds nanos) (day_2026 1 12))
    (Ok (of_kind kind))

abbrev pub AnswersA : Type 0
AnswersA = IsEaster 2026 (day_2026 4 5)

abbrev pub AnswersB : Type 0
AnswersB = IsClosed 11 18 BussUndBettag

abbrev pub AnswersC : Type 0
AnswersC = IsAdded (day_2026 4 2) 1 (day_2026 4 7)

abbrev pub AnswersD : Type 0
AnswersD = IsAdded (day_2026 4 4) 0 (day_2026 4 4)

abbrev pub AnswersE : Type 0
AnswersE =
    IsJudged 0 1 (day_2026 1 10) (day_2026 1 12) (judged 1 0 (Some (day_2026 1 12)) (negsuc 0))
    × IsSpanned 0 1 0 (day_2026 1 10) (spanned 0 (day_2026 1 13) None)

abbrev pub AnswersF : Type 0
AnswersF =
    IsJudged 5 0 (day_2026 1 8) (day_2026 1 9) (judged 1 1 (Some (day_2026 1 10)) (negsuc 0))
    × IsJudged 5 0 (day_2026 1 8) (day_2026 1 10) (judged 0 0 None (pos 0))

abbrev pub AnswersG : Type 0
AnswersG =
    IsJudged 6 1 (day_2026 1 31) (day_2026 2 28) (judged 1 2 (Some (day_2026 2 28)) (negsuc 2))
    × IsSpanned 6 1 0 (day_2026 1 31) (spanned 0 (day_2026 3 1) None)

abbrev pub AnswersH : Type 0
AnswersH = IsSpanned 1 1 1 (day_2026 1 10) (of_kind 2)

abbrev pub AnswersI : Type 0
AnswersI =
    IsContrlDue (pos 1774951199) (at_instant 0 (pos 1774972799) 0)
    × IsContrlDue (pos 1774951200) (at_instant 0 (pos 1775080800) 0)

abbrev pub AnswersJ : Type 0
AnswersJ = IsHalfPastTwo 3 29 (Err LocalTimeAbsent) × IsHalfPastTwo 10 25 (Ok (at_instant 0 (pos 1792888200) 0))

abbrev pub AnswersK : Type 0
AnswersK = IsGasBeginning (day_2026 3 29) (pos 1774756800)

abbrev pub AnswersL : Type 0
AnswersL = IsSameDayDue 12 (pos 1767956400) (at_instant 0 (pos 1768215600) 0)

abbrev pub AnswersM : Type 0
AnswersM = IsAnnounced (pos 1767960000) 0 1 × IsAnnounced (pos 1767960000) 1 0 × IsAnnounced (pos 1768172400) 0 2
