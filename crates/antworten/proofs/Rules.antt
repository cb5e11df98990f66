-- What the proofs of the host calls cite of datum.
--   day_rules    the index of a date is one of the calendar
--   month_rules  a date has an index exactly if it is one of the range, and then has a month
-- Assumes nothing.
use mathlib.Core.Bool.{cond}
use mathlib.Core.Path.{◌≡◌, refl}
use Rattle.std.specs.Prelude.{Some, None}
use Rattle.datum.specs.declared.Date.{Date}
use Rattle.datum.specs.Calendar.{is_date, days_before, index_of}
use Rattle.datum.proofs.MonthStepRules.{date_month}
use Rattle.datum.proofs.RoundTrip.{index_inside}

pub ruleset day_rules = (index_inside)

pub index_is : (d : Date) → index_of d ≡ cond (is_date d) (Some (days_before d)) None
unfolding index_of
index_is d = refl

pub ruleset month_rules = (index_is, date_month)
