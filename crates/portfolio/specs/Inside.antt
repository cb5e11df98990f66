-- What functions promise on their way; no reader need believe it.
--   index a         = the index of the day a, if it lies in the calendar
--   year_by cal d   = the year of the day d, of the calendar cal
--   run_of cal a b  = the run of the pair a, b: the year in which it begins; none, if it is out of range
--   year_of_run r   = the number of a run's year; 0 for none
-- Assumes nothing.
use Rattle.std.specs.Prelude.{ℕ, ◌+◌, ◌-◌, cond, Option, Some, None}
use Rattle.datum.specs.Calendar.{first_year, year_of}
use Rattle.werktag.specs.declared.HolidayCalendar.{HolidayCalendar}
use Rattle.jahre.specs.CalendarYear.{CalendarYear}
use Rattle.portfolio.specs.Portfolio.{first_day, in_calendar, in_range}

abbrev pub index : ℕ → Option ℕ
index a = cond (in_calendar a) (Some (a - first_day)) None

abbrev pub year_by : HolidayCalendar → ℕ → CalendarYear
year_by cal d = record { calendar = cal; year = (year_of d).0 }

unfoldable pub run_of : HolidayCalendar → ℕ → ℕ → Option CalendarYear
run_of cal a b = cond (in_range a b) (Some (year_by cal (a - first_day))) None

abbrev pub year_of_run : Option CalendarYear → ℕ
year_of_run None = 0
year_of_run (Some y) = first_year + y.year
