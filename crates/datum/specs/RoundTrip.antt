-- A date and its index undo each other, and exactly what is no date of the range has no index. The range is the dates
-- from 1 January 1996 to 31 December 2899, and their indexes are 0 to `last`.
--   Valid date        it is a date of the range, by the bounds of its three numbers
--   IndexThenDate     the date at the index of a date is that date
--   DateThenIndex     the index of the date at an index of the calendar is that index
--   IndexIsInside     the index of a date is one of the calendar
--   IndexedIsValid    what has an index is a date of the range
--   NoIndexIfInvalid  three numbers have no index exactly if they are no date of the range
use Rattle.std.specs.Prelude.{ℕ, ◌≤◌, ◌≡◌, ◌↔◌, Some, None}
use Rattle.zaehlung.specs.Walk.{last}
use Rattle.datum.specs.declared.Date.{Date}
use Rattle.datum.specs.Calendar.{is_leap, days_in_month, index_of, date_of}

pub record Valid (d : Date) : Type 0 where
  pub from : 1996 ≤ d.year
  pub to : d.year ≤ 2899
  pub month_from : 1 ≤ d.month
  pub month_to : d.month ≤ 12
  pub day_from : 1 ≤ d.day
  pub day_to : d.day ≤ days_in_month (is_leap d.year) d.month

abbrev pub IndexThenDate : Type 0
IndexThenDate = (date : Date) (index : ℕ) → index_of date ≡ Some index → date_of index ≡ date

abbrev pub DateThenIndex : Type 0
DateThenIndex = (index : ℕ) → index ≤ last → index_of (date_of index) ≡ Some index

abbrev pub IndexIsInside : Type 0
IndexIsInside = (date : Date) (index : ℕ) → index_of date ≡ Some index → index ≤ last

abbrev pub IndexedIsValid : Type 0
IndexedIsValid = (date : Date) (index : ℕ) → index_of date ≡ Some index → Valid date

abbrev pub NoIndexIfInvalid : Type 0
NoIndexIfInvalid = (date : Date) → (index_of date ≡ None) ↔ (Valid date → ⊥)
