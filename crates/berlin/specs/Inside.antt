-- What is true of every `Moment` and every `Clock`, and a year that the code guesses.
--   Proper m        m is an instant inside its limits
--   ProperClock c   c is a time of day
--   guessed_year i = the year of day i by the average length of a year: its own, or one at most two days away
use Rattle.std.specs.Prelude.{ℕ, ◌+◌, ◌*◌, ◌/◌, ◌≤◌, ◌<◌}
use Rattle.datum.specs.Calendar.{first_year}
use Rattle.berlin.specs.declared.Moment.{Moment}
use Rattle.berlin.specs.declared.Clock.{Clock}
use Rattle.berlin.specs.Berlin.{day_seconds, most_nanos, seconds_of, first_second, last_second}

pub record Proper (m : Moment) : Type 0 where
  pub second_lt : m.second < day_seconds
  pub nanos_le : m.nanos ≤ most_nanos
  pub from : first_second ≤ seconds_of m
  pub to : seconds_of m ≤ last_second

pub record ProperClock (c : Clock) : Type 0 where
  pub second_lt : c.second < day_seconds
  pub nanos_le : c.nanos ≤ most_nanos

abbrev pub guessed_year : ℕ → ℕ
guessed_year i = first_year + i * 400 / 146097
