-- What is true of a year's own numbers; no reader need believe it.
--   IsUsual a   they are like those of each year of the calendar: it begins on a weekday, has at most one leap day, and
--       its Easter is a Sunday in spring
-- Assumes nothing.
use Rattle.std.specs.Prelude.{◌+◌, ◌%◌, ◌<◌, ◌≤◌, ◌≡◌}
use Rattle.jahre.specs.declared.Year.TheInside.{Inside}

pub record IsUsual (a : Inside) : Type 0 where
  pub first_small : a.first < 7
  pub leaps_small : a.leaps ≤ 1
  pub easter_late : 2 ≤ a.easter
  pub easter_small : a.easter ≤ 116
  pub easter_sunday : (a.first + a.easter) % 7 ≡ 6
