-- The theorem about spans is sharp: three stronger wordings of it are false under the holiday list. Each falls at an
-- edge of the calendar, by the span and the verdicts of one transmission day.
--   index_on y m d   = the index of the day with that date
-- 'Acceptable exactly if in the span', also of an anchor whose verdict is refused: from 3 January 1996, Korridor(1)
--   RefusedAnchorSpan        its span is from 2 to 4 January
--   RefusedAnchorVerdict     the verdict on its first day is refused
-- 'A span that isn't empty has an acceptable anchor': from 1 January 1996, Window(1, 0)
--   RefusedSpan              its span is from 1 to 2 January
--   RefusedSpanVerdicts      the verdict on each anchor in it is refused
--   RefusedSpanAcceptsNone   and no anchor at all is acceptable
-- A claim on the date of a TooLate, also where the span leaves the calendar: from 22 December 2899, Window(5, 0)
--   LeavingSpanVerdict       for 21 December it is TooLate, names 22 December, and its `latest` is 0
--   LeavingSpan              its span leaves the calendar
--   LeavingSpanBeginsNever   so no date is its first day
use Rattle.std.specs.Prelude.{ℕ, ◌≤◌, ◌≡◌, ◌≢◌, Some, None}
use Rattle.zaehlung.specs.Walk.{last}
use Rattle.datum.specs.Calendar.{days_before}
use Rattle.werktag.specs.declared.HolidayCalendar.TheVariants.{BdewMaKo}
use Rattle.werktag.specs.Werktag.{is_werktag}
use Rattle.vorlauf.specs.declared.VorlaufShape.TheVariants.{WindowWerktageBefore, Korridor}
use Rattle.vorlauf.specs.declared.VorlaufVerdict.TheVariants.{Ok, TooLate}
use Rattle.vorlauf.specs.declared.Span.TheVariants.{Both}
use Rattle.vorlauf.specs.Verdict.{check_of}
use Rattle.vorlauf.specs.Span.{span_of, LiesIn, Begins}

abbrev pub index_on : ℕ → ℕ → ℕ → ℕ
index_on y m d = days_before (record { year = y; month = m; day = d })

abbrev pub RefusedAnchorSpan : Type 0
RefusedAnchorSpan =
    span_of (is_werktag BdewMaKo) (Korridor 1) (index_on 1996 1 3) ≡ Some (Both (index_on 1996 1 2) (index_on 1996 1 4))

abbrev pub RefusedAnchorVerdict : Type 0
RefusedAnchorVerdict = check_of (is_werktag BdewMaKo) (Korridor 1) (index_on 1996 1 3) (index_on 1996 1 2) ≡ None

abbrev pub RefusedSpan : Type 0
RefusedSpan =
    span_of (is_werktag BdewMaKo) (WindowWerktageBefore 1 0) (index_on 1996 1 1)
    ≡ Some (Both (index_on 1996 1 1) (index_on 1996 1 2))

abbrev pub RefusedSpanVerdicts : Type 0
RefusedSpanVerdicts =
    (anchor : ℕ) → LiesIn (span_of (is_werktag BdewMaKo) (WindowWerktageBefore 1 0) (index_on 1996 1 1)) anchor →
    check_of (is_werktag BdewMaKo) (WindowWerktageBefore 1 0) (index_on 1996 1 1) anchor ≡ None

abbrev pub RefusedSpanAcceptsNone : Type 0
RefusedSpanAcceptsNone =
    (anchor : ℕ) → anchor ≤ last →
    check_of (is_werktag BdewMaKo) (WindowWerktageBefore 1 0) (index_on 1996 1 1) anchor ≢ Some Ok

abbrev pub LeavingSpanVerdict : Type 0
LeavingSpanVerdict =
    check_of (is_werktag BdewMaKo) (WindowWerktageBefore 5 0) (index_on 2899 12 22) (index_on 2899 12 21)
    ≡ Some (TooLate 1 (index_on 2899 12 22))

abbrev pub LeavingSpan : Type 0
LeavingSpan = span_of (is_werktag BdewMaKo) (WindowWerktageBefore 5 0) (index_on 2899 12 22) ≡ None

abbrev pub LeavingSpanBeginsNever : Type 0
LeavingSpanBeginsNever =
    (date : ℕ) → Begins (span_of (is_werktag BdewMaKo) (WindowWerktageBefore 5 0) (index_on 2899 12 22)) date → ⊥
