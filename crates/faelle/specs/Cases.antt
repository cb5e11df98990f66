-- The cases A to L, Berlin time, 2026: worked examples from outside, of the definitions that the host calls are proved
-- to compute. Easter Sunday, and then a table in the order of the letters, each answer beside what it must be.
--   A  Easter is 5 April
--   B  18 November is no Werktag, by the reason 16, Buß- und Bettag
--   C  2 April plus 1 Werktag is 7 April
--   D  4 April, a Saturday, plus 0 is 4 April
--   E  LatestWerktageBefore(1), 10 January for 12 January: TooLate, 0 Werktage, 12 January, margin −1; span from
--      13 January
--   F  TagVorDemLetztenWerktagVor, 8 January: 9 January TooLate, 1 Werktag, 10 January, margin −1; 10 January Ok,
--      margin 0
--   G  LatestMonateBefore(1), 31 January: 28 February TooLate, 2 Werktage, 28 February, margin −3; span from 1 March
--   H  Window 1 and 1 from 10 January: empty
--   I  CONTRL Regelfall received 31 March 11:59:59 is due 17:59:59; received 12:00:00, 2 April 00:00
--   J  29 March 02:30 is absent; 25 October 02:30 is 00:30 UTC
--   K  the Gas day 29 March begins 04:00 UTC
--   L  SameDayAt 12:00 received 9 January 12:00: 12 January 12:00
use Rattle.std.specs.Prelude.{◌≡◌, List, [], ◌∷◌, map, pos, neg_ℤ, Some, None, Result, Ok, Err}
use Rattle.datum.specs.declared.Date.{Date}
use Rattle.werktag.specs.declared.HolidayCalendar.TheVariants.{BdewMaKo}
use Rattle.werktag.specs.Easter.{easter_sunday}
use Rattle.werktag.specs.Reason.{reason}
use Rattle.berlin.specs.Berlin.{read_instant, read_clock}
use Rattle.faelle.specs.Answered.{day_2026, werktag_2026}
use Rattle.antwortsatz.specs.declared.Answer.{Answer}
use Rattle.antwortsatz.specs.declared.Refusal.{Refusal}
use Rattle.antwortsatz.specs.declared.Refusal.TheVariants.{LocalTimeAbsent}
use Rattle.antwortsatz.specs.Answers.{of_kind, dated, at_instant, judged, spanned}
use Rattle.antworten.specs.Kalender.{is_werktag_answer, add_werktage_answer}
use Rattle.antworten.specs.Uhrzeit.{berlin_at_answer, tagesbeginn_utc_answer}
use Rattle.antworten_frist.specs.Frist.{contrl_due_at_answer, frist_due_at_answer}
use Rattle.antworten_vorlauf.specs.Vorlauf.{vorlauf_check_answer, vorlauf_span_answer}

-- what a call answers, and what it must
abbrev pub cases_b_to_l : List (Result Answer Refusal × Result Answer Refusal)
cases_b_to_l =
    (is_werktag_answer (reason BdewMaKo) (day_2026 11 18), Ok (of_kind 16))
    ∷ (add_werktage_answer werktag_2026 (day_2026 4 2) 1, Ok (dated (day_2026 4 7)))
    ∷ (add_werktage_answer werktag_2026 (day_2026 4 4) 0, Ok (dated (day_2026 4 4)))
    ∷ (
      vorlauf_check_answer werktag_2026 0 1 0 (day_2026 1 10) (day_2026 1 12),
      Ok (judged 1 0 (Some (day_2026 1 12)) (neg_ℤ (pos 1))),
    )
    ∷ (vorlauf_span_answer werktag_2026 0 1 0 (day_2026 1 10), Ok (spanned 0 (day_2026 1 13) None))
    ∷ (
      vorlauf_check_answer werktag_2026 5 0 0 (day_2026 1 8) (day_2026 1 9),
      Ok (judged 1 1 (Some (day_2026 1 10)) (neg_ℤ (pos 1))),
    )
    ∷ (vorlauf_check_answer werktag_2026 5 0 0 (day_2026 1 8) (day_2026 1 10), Ok (judged 0 0 None (pos 0)))
    ∷ (
      vorlauf_check_answer werktag_2026 6 1 0 (day_2026 1 31) (day_2026 2 28),
      Ok (judged 1 2 (Some (day_2026 2 28)) (neg_ℤ (pos 3))),
    )
    ∷ (vorlauf_span_answer werktag_2026 6 1 0 (day_2026 1 31), Ok (spanned 0 (day_2026 3 1) None))
    ∷ (vorlauf_span_answer werktag_2026 1 1 1 (day_2026 1 10), Ok (of_kind 2))
    ∷ (contrl_due_at_answer (read_instant (pos 1774951199) 0) 0, Ok (at_instant 0 (pos 1774972799) 0))
    ∷ (contrl_due_at_answer (read_instant (pos 1774951200) 0) 0, Ok (at_instant 0 (pos 1775080800) 0))
    ∷ (berlin_at_answer (day_2026 3 29) (read_clock 2 30 0 0), Err LocalTimeAbsent)
    ∷ (berlin_at_answer (day_2026 10 25) (read_clock 2 30 0 0), Ok (at_instant 0 (pos 1792888200) 0))
    ∷ (tagesbeginn_utc_answer (day_2026 3 29) 1, Ok (at_instant 0 (pos 1774756800) 0))
    ∷ (
      frist_due_at_answer werktag_2026 2 0 (read_clock 12 0 0 0) (read_instant (pos 1767956400) 0),
      Ok (at_instant 0 (pos 1768215600) 0),
    )
    ∷ []

abbrev pub CasesAToL : Type 0
CasesAToL =
    ◌≡◌ {A = Date × List (Result Answer Refusal)}
    (easter_sunday 2026, map (λ row. row.0) cases_b_to_l)
    (day_2026 4 5, map (λ row. row.1) cases_b_to_l)
