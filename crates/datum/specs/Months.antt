-- Shifts by months, BGB §188: which date they reach, and that it lies in the calendar. And what M is: a day and n
-- months or, where the day was cut to the month's last, the first of the next month. Months are counted from January of
-- year 0.
--   AddedMonth           what lies n months after a date is in the month n later
--   AddedDay             its day is that of the date, or the month's last where the month lacks that day
--   AddedIsDate          it is a date of the range, if the date has a day from 1 on
--   AddedLeaves          nothing lies n months after a date of the range exactly if that month is past December 2899
--   SubtractedMonth, SubtractedDay, SubtractedIsDate   the same of what lies n months before a date
--   SubtractedLeaves     nothing lies n months before a date of the range exactly if that month is before January 1996
--   LaterStaysInside     what lies n months after a day of the calendar is a day of it
--   EarlierStaysInside   what lies n months before a day of the calendar is one too
-- M by the date that lies n months later:
--   MKeepsDay            where its day of the month isn't cut, M is the index of that date
--   MOfCutDay            where it is cut, M is the index of the first of the next month, or leaves the calendar with it
--   MLeaves              where no date lies n months after a day of the calendar, M leaves the calendar too
--   MStaysInside         what M reaches from a day of the calendar is a day of it
use Rattle.std.specs.Prelude.{ℕ, ◌+◌, ◌*◌, ◌≤◌, ◌<◌, ◌≡◌, ◌↔◌, min, Some, None}
use Rattle.zaehlung.specs.Walk.{last}
use Rattle.datum.specs.declared.Date.{Date}
use Rattle.datum.specs.Calendar.{first_year, last_year, is_leap, days_in_month, days_before, date_of}
use Rattle.datum.specs.MonthShift.{ordinal_of, add_months, subtract_months}
use Rattle.datum.specs.Monate.{to_step, months_later, months_earlier, M}
use Rattle.datum.specs.RoundTrip.{Valid}

abbrev pub AddedMonth : Type 0
AddedMonth =
    (date reached : Date) (n : ℕ) → add_months date n ≡ Some reached → ordinal_of reached ≡ ordinal_of date + n

abbrev pub AddedDay : Type 0
AddedDay =
    (date reached : Date) (n : ℕ) → add_months date n ≡ Some reached →
    reached.day ≡ min date.day (days_in_month (is_leap reached.year) reached.month)

abbrev pub AddedIsDate : Type 0
AddedIsDate = (date reached : Date) (n : ℕ) → 1 ≤ date.day → add_months date n ≡ Some reached → Valid reached

abbrev pub AddedLeaves : Type 0
AddedLeaves =
    (date : Date) (n : ℕ) → Valid date →
    (add_months date n ≡ None) ↔ (last_year * 12 + 11 < ordinal_of date + n)

abbrev pub SubtractedMonth : Type 0
SubtractedMonth =
    (date reached : Date) (n : ℕ) → subtract_months date n ≡ Some reached → ordinal_of reached + n ≡ ordinal_of date

abbrev pub SubtractedDay : Type 0
SubtractedDay =
    (date reached : Date) (n : ℕ) → subtract_months date n ≡ Some reached →
    reached.day ≡ min date.day (days_in_month (is_leap reached.year) reached.month)

abbrev pub SubtractedIsDate : Type 0
SubtractedIsDate = (date reached : Date) (n : ℕ) → 1 ≤ date.day → subtract_months date n ≡ Some reached → Valid reached

abbrev pub SubtractedLeaves : Type 0
SubtractedLeaves =
    (date : Date) (n : ℕ) → Valid date →
    (subtract_months date n ≡ None) ↔ (ordinal_of date < first_year * 12 + n)

abbrev pub LaterStaysInside : Type 0
LaterStaysInside = (index n end : ℕ) → index ≤ last → months_later index n ≡ Some end → end ≤ last

abbrev pub EarlierStaysInside : Type 0
EarlierStaysInside = (index n end : ℕ) → index ≤ last → months_earlier index n ≡ Some end → end ≤ last

abbrev pub MKeepsDay : Type 0
MKeepsDay =
    (index n : ℕ) (date : Date) → add_months (date_of index) n ≡ Some date → (date_of index).day ≤ date.day →
    M n index ≡ Some (days_before date)

abbrev pub MOfCutDay : Type 0
MOfCutDay =
    (index n : ℕ) (date : Date) → add_months (date_of index) n ≡ Some date → date.day < (date_of index).day →
    M n index ≡ to_step (add_months (record { year = date.year; month = date.month; day = 1 }) 1)

abbrev pub MLeaves : Type 0
MLeaves = (index n : ℕ) → index ≤ last → add_months (date_of index) n ≡ None → M n index ≡ None

abbrev pub MStaysInside : Type 0
MStaysInside = (n index end : ℕ) → index ≤ last → M n index ≡ Some end → end ≤ last
