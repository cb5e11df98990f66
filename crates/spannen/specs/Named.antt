-- When the date that a TooLate names is the first day of the span: shape by shape, for any test of a day, any
-- transmission day and anchor of the calendar and whatever counts. It is the date that the original computes.
--   OnTooLate shape P         P holds of the test, the transmission day and the date of every TooLate of the shape
--   NamesFirstDay shape       that date is the first day of the span
--   NamesFirstDayIfOpen shape count   in a span that has a first day, it is that exactly if the count is 0 or both the
--                             transmission day and the first day are Werktage
--   EarliestNamesFirstDay     so it is always for `EarliestWerktageAfter`
--   TagNamesFirstDay          and for `TagVorDemLetztenWerktagVor`
--   MonateNamesFirstDayUncut  for `LatestMonateBefore` exactly if no day was cut to a month's last: the date has the
--                             day of the month of the transmission day
--   BeforeNamesFirstDayIfOpen for `LatestWerktageBefore`, by its count
--   WindowNamesFirstDayIfOpen for `WindowWerktageBefore`, by its `latest`
--   AfterNamesNoFirstDay      for `LatestWerktageAfter` never
--   KorridorNamesNoFirstDay   for `Korridor` never
--   AfterNamesNoAcceptable    the date of `LatestWerktageAfter`, the anchor itself, isn't acceptable
--   KorridorNamesNoAcceptable nor is that of `Korridor`, its opening day
--   BeforeNamesAcceptableFromWerktag   the date of `LatestWerktageBefore`, with a count from 1 on, is acceptable
--                             exactly if the transmission day is a Werktag
-- Of `LatestMonateUndWerktageBefore` nothing is claimed, since nothing of this kind holds. In 2026, a month and a
-- Werktag before:
--   MonateUndWerktageMayName  from Monday 12 January, for 12 February: it names 13 February, the first day of the span
--   MonateUndWerktageMayMiss  from Friday 9 January, for 9 February: it names 12 February, the span is from the 10th
use Rattle.std.specs.Prelude.{ℕ, ◌≤◌, ◌≡◌, ◌≢◌, ◌↔◌, ◌⊎◌, Bool, true, Some}
use Rattle.zaehlung.specs.Walk.{last}
use Rattle.datum.specs.Calendar.{date_of}
use Rattle.werktag.specs.declared.HolidayCalendar.TheVariants.{BdewMaKo}
use Rattle.werktag.specs.Werktag.{is_werktag}
use Rattle.vorlauf.specs.declared.VorlaufShape.{VorlaufShape}
use Rattle.vorlauf.specs.declared.VorlaufShape.TheVariants.{LatestWerktageBefore, WindowWerktageBefore}
use Rattle.vorlauf.specs.declared.VorlaufShape.TheVariants.{LatestWerktageAfter, EarliestWerktageAfter, Korridor}
use Rattle.vorlauf.specs.declared.VorlaufShape.TheVariants.{TagVorDemLetztenWerktagVor, LatestMonateBefore}
use Rattle.vorlauf.specs.declared.VorlaufShape.TheVariants.{LatestMonateUndWerktageBefore}
use Rattle.vorlauf.specs.declared.VorlaufVerdict.TheVariants.{Ok, TooLate}
use Rattle.vorlauf.specs.Verdict.{check_of}
use Rattle.vorlauf.specs.Span.{span_of, Begins}
use Rattle.spannen.specs.Sharp.{index_on}

abbrev pub OnTooLate : VorlaufShape → ((ℕ → Bool) → ℕ → ℕ → Type 0) → Type 0
OnTooLate shape P =
    (is_open : ℕ → Bool) (day anchor shortfall date : ℕ) → day ≤ last → anchor ≤ last →
    check_of is_open shape day anchor ≡ Some (TooLate shortfall date) → P is_open day date

abbrev pub NamesFirstDay : VorlaufShape → Type 0
NamesFirstDay shape = OnTooLate shape (λ is_open day date. Begins (span_of is_open shape day) date)

abbrev pub NamesFirstDayIfOpen : VorlaufShape → ℕ → Type 0
NamesFirstDayIfOpen shape count =
    OnTooLate shape (λ is_open day date. (first : ℕ) → Begins (span_of is_open shape day) first →
    Begins (span_of is_open shape day) date ↔ ((count ≡ 0) ⊎ ((is_open day ≡ true) × (is_open first ≡ true))))

abbrev pub EarliestNamesFirstDay : Type 0
EarliestNamesFirstDay = (n : ℕ) → NamesFirstDay (EarliestWerktageAfter n)

abbrev pub TagNamesFirstDay : Type 0
TagNamesFirstDay = NamesFirstDay TagVorDemLetztenWerktagVor

abbrev pub MonateNamesFirstDayUncut : Type 0
MonateNamesFirstDayUncut =
    (n : ℕ) → OnTooLate (LatestMonateBefore n) (λ is_open day date.
    Begins (span_of is_open (LatestMonateBefore n) day) date ↔ ((date_of date).day ≡ (date_of day).day))

abbrev pub BeforeNamesFirstDayIfOpen : Type 0
BeforeNamesFirstDayIfOpen = (n : ℕ) → NamesFirstDayIfOpen (LatestWerktageBefore n) n

abbrev pub WindowNamesFirstDayIfOpen : Type 0
WindowNamesFirstDayIfOpen =
    (earliest latest : ℕ) → NamesFirstDayIfOpen (WindowWerktageBefore earliest latest) latest

abbrev pub AfterNamesNoFirstDay : Type 0
AfterNamesNoFirstDay =
    (n : ℕ) → OnTooLate (LatestWerktageAfter n) (λ is_open day date.
    Begins (span_of is_open (LatestWerktageAfter n) day) date → ⊥)

abbrev pub KorridorNamesNoFirstDay : Type 0
KorridorNamesNoFirstDay =
    (n : ℕ) → OnTooLate (Korridor n) (λ is_open day date. Begins (span_of is_open (Korridor n) day) date → ⊥)

abbrev pub AfterNamesNoAcceptable : Type 0
AfterNamesNoAcceptable =
    (n : ℕ) → OnTooLate (LatestWerktageAfter n) (λ is_open day date.
    check_of is_open (LatestWerktageAfter n) day date ≢ Some Ok)

abbrev pub KorridorNamesNoAcceptable : Type 0
KorridorNamesNoAcceptable =
    (n : ℕ) → OnTooLate (Korridor n) (λ is_open day date. check_of is_open (Korridor n) day date ≢ Some Ok)

abbrev pub BeforeNamesAcceptableFromWerktag : Type 0
BeforeNamesAcceptableFromWerktag =
    (n : ℕ) → 1 ≤ n → OnTooLate (LatestWerktageBefore n) (λ is_open day date.
    (check_of is_open (LatestWerktageBefore n) day date ≡ Some Ok) ↔ (is_open day ≡ true))

-- the anchor has a TooLate, of whose date P holds
abbrev pub IsTooLateNaming : VorlaufShape → ℕ → ℕ → (ℕ → Type 0) → Type 0
IsTooLateNaming shape day anchor P =
    (shortfall : ℕ) × (date : ℕ)
    × (check_of (is_werktag BdewMaKo) shape day anchor ≡ Some (TooLate shortfall date)) × P date

abbrev pub MonateUndWerktageMayName : Type 0
MonateUndWerktageMayName =
    let shape = LatestMonateUndWerktageBefore 1 1 in
    let day = index_on 2026 1 12 in
    IsTooLateNaming shape day (index_on 2026 2 12) (λ date. Begins (span_of (is_werktag BdewMaKo) shape day) date)

abbrev pub MonateUndWerktageMayMiss : Type 0
MonateUndWerktageMayMiss =
    let shape = LatestMonateUndWerktageBefore 1 1 in
    let day = index_on 2026 1 9 in
    IsTooLateNaming shape day (index_on 2026 2 9) (λ date. Begins (span_of (is_werktag BdewMaKo) shape day) date → ⊥)
