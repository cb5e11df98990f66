-- The proofs of the statements in `specs/OutsideValues`: the definitions of calendar and months compute to the values.
use mathlib.Core.Path.{refl}
use Rattle.zaehlung.specs.Blocks.{start}
use Rattle.datum.specs.Calendar.{is_leap, year_len, days_in_month, is_date, index_of}
use Rattle.datum.specs.MonthShift.{in_month, on_month, add_months, subtract_months}
use Rattle.datum.specs.OutsideValues.{DateEdges, FebruaryLengths, ShiftedDates}

pub edges : DateEdges
unfolding index_of is_date start year_len days_in_month is_leap
edges = refl

pub februaries : FebruaryLengths
unfolding days_in_month is_leap
februaries = refl

pub shifts : ShiftedDates
unfolding add_months subtract_months on_month in_month days_in_month is_leap
shifts = refl
