-- What functions ask and promise of ranges; no reader need believe it.
--   InsideShift s = the date that a shift by months reached is one of the range
use Rattle.std.specs.Prelude.{true, ◌≡◌, Option, Some, None}
use Rattle.datum.specs.Calendar.{is_date}
use Rattle.datum.specs.declared.Date.{Date}

abbrev pub InsideShift : Option Date → Type 0
InsideShift (Some d) = is_date d ≡ true
InsideShift None = Unit {0}
