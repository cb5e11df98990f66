-- What is true of a year's fields; no reader need believe it.
--   IsIndexed a   they are those of the year that it is known as: the indexes of its first day and of the next year's,
--       and the Werktage before it
-- Assumes nothing.
use Rattle.std.specs.Prelude.{suc, ◌≤◌, ◌≡◌}
use Rattle.zaehlung.specs.Walk.{count}
use Rattle.datum.specs.Calendar.{year_start}
use Rattle.werktag.specs.Werktag.{is_werktag}
use Rattle.portfolio.specs.declared.IndexedYear.TheInside.{Inside}

pub record IsIndexed (a : Inside) : Type 0 where
  pub its_year : a.known.year ≤ 903
  pub its_first : a.first ≡ year_start a.known.year
  pub its_after : a.after ≡ year_start (suc a.known.year)
  pub its_entry : a.before ≡ count (is_werktag a.known.calendar) (year_start a.known.year)
