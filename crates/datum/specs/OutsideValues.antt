-- Dates, lengths of February and shifts by months against values from outside: the Gregorian calendar, and BGB §188
-- Abs. 2 and 3, by which a Frist of a month from 31 January ends with the last day of February.
--   date_on           = the date of a year, a month and a day
--   DateEdges         the indexes of the calendar's first day and its last, and days that have none: the ones next to
--                     these, 29 February 2100 and 30 February 2000
--   FebruaryLengths   February in 2023, 2024, 2100 (of the full hundreds, only every fourth is a leap year) and 2400
--   ShiftedDates      to a month of 28, 29, 30 and 31 days, over a year's end, and out of the calendar at either end
use Rattle.std.specs.Prelude.{ℕ, [], ◌∷◌, ◌≡◌, Some, None}
use Rattle.datum.specs.declared.Date.{Date}
use Rattle.datum.specs.Calendar.{is_leap, days_in_month, index_of}
use Rattle.datum.specs.MonthShift.{add_months, subtract_months}

abbrev pub date_on : ℕ → ℕ → ℕ → Date
date_on y m d = record { year = y; month = m; day = d }

abbrev pub DateEdges : Type 0
DateEdges =
    index_of (date_on 1996 1 1) ∷ index_of (date_on 2899 12 31) ∷ index_of (date_on 1995 12 31)
    ∷ index_of (date_on 2900 1 1) ∷ index_of (date_on 2100 2 29) ∷ index_of (date_on 2000 2 30) ∷ []
    ≡ Some 0 ∷ Some 330179 ∷ None ∷ None ∷ None ∷ None ∷ []

abbrev pub FebruaryLengths : Type 0
FebruaryLengths =
    days_in_month (is_leap 2023) 2 ∷ days_in_month (is_leap 2024) 2 ∷ days_in_month (is_leap 2100) 2
    ∷ days_in_month (is_leap 2400) 2 ∷ []
    ≡ 28 ∷ 29 ∷ 28 ∷ 29 ∷ []

abbrev pub ShiftedDates : Type 0
ShiftedDates =
    add_months (date_on 2026 1 31) 1 ∷ subtract_months (date_on 2024 3 31) 1 ∷ add_months (date_on 2026 5 31) 1
    ∷ add_months (date_on 2026 2 28) 1 ∷ add_months (date_on 2026 12 15) 2 ∷ subtract_months (date_on 2026 1 15) 13
    ∷ subtract_months (date_on 1996 1 31) 1 ∷ add_months (date_on 2899 12 1) 1
    ∷ subtract_months (date_on 1996 1 1) 4294967295 ∷ []
    ≡ Some (date_on 2026 2 28) ∷ Some (date_on 2024 2 29) ∷ Some (date_on 2026 6 30) ∷ Some (date_on 2026 3 28)
    ∷ Some (date_on 2027 2 15) ∷ Some (date_on 2024 12 15) ∷ None ∷ None ∷ None ∷ []
