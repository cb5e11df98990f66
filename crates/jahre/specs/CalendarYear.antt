-- A year of a calendar, by its number: the year 1996 + year.
-- Assumes nothing.
use Rattle.std.specs.Prelude.{ℕ}
use Rattle.werktag.specs.declared.HolidayCalendar.{HolidayCalendar}

pub record CalendarYear : Type 0 where
  pub calendar : HolidayCalendar
  pub year : ℕ
