-- The definitions against values from outside: each side is computed. specs/ says which values they are.
use mathlib.Core.Path.{refl}
use Rattle.zaehlung.specs.Blocks.{start, at}
use Rattle.datum.specs.Calendar.{is_leap, year_len, days_in_month, date_in, date_of}
use Rattle.berlin.specs.Berlin.{last_sunday, year_at, offset_at, berlin_at, berlin_midnight, end_of_day_berlin}
use Rattle.berlin.specs.Berlin.{tagesbeginn_utc, tag_des_beginns}
use Rattle.berlin.specs.OutsideValues.{SwitchValues, ClockValues, BeginningValues, BegunDayValues, BerlinDayValues}

pub switches : SwitchValues
unfolding last_sunday start year_len days_in_month is_leap
switches = refl

pub clocks : ClockValues
unfolding berlin_at offset_at year_at last_sunday date_of date_in at start year_len days_in_month is_leap
clocks = refl

pub beginnings : BeginningValues
unfolding tagesbeginn_utc berlin_midnight end_of_day_berlin berlin_at offset_at year_at last_sunday date_of date_in at
    start year_len days_in_month is_leap
beginnings = refl

pub days : BegunDayValues
unfolding tag_des_beginns tagesbeginn_utc berlin_midnight berlin_at offset_at year_at last_sunday date_of date_in at
    start year_len days_in_month is_leap
days = refl

pub dates : BerlinDayValues
unfolding offset_at year_at last_sunday date_of date_in at start year_len days_in_month is_leap
dates = refl
