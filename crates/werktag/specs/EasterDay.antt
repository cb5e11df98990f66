-- Easter Sunday of a year of the calendar.
--   calendar_date y m d = the date with that year, month and day
--   EasterIsDate           its date is one of the calendar
--   EasterIsSunday         it is a Sunday
--   EasterFromMarch22      it is no earlier than 22 March, in any year
--   EasterToApril25        and no later than 25 April
use Rattle.std.specs.Prelude.{ℕ, ◌≤◌, ◌≡◌, true}
use Rattle.datum.specs.declared.Date.{Date}
use Rattle.datum.specs.Calendar.{first_year, last_year, is_date, days_before, weekday}
use Rattle.werktag.specs.Easter.{easter_sunday, easter_index}

abbrev pub calendar_date : ℕ → ℕ → ℕ → Date
calendar_date y m d = record { year = y; month = m; day = d }

abbrev pub EasterIsDate : Type 0
EasterIsDate = (year : ℕ) → first_year ≤ year → year ≤ last_year → is_date (easter_sunday year) ≡ true

abbrev pub EasterIsSunday : Type 0
EasterIsSunday = (year : ℕ) → first_year ≤ year → year ≤ last_year → weekday (easter_index year) ≡ 6

abbrev pub EasterFromMarch22 : Type 0
EasterFromMarch22 = (year : ℕ) → days_before (calendar_date year 3 22) ≤ easter_index year

abbrev pub EasterToApril25 : Type 0
EasterToApril25 = (year : ℕ) → easter_index year ≤ days_before (calendar_date year 4 25)
