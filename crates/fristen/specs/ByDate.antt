-- Which window of version one an instant may lie in, by its Berlin date.
--   is_change_day d = whether d is 1 April or 1 October
--   is_eve d        = whether it is the day before
-- Source: document 02, F-7, 'With change day 1 April or 1 October'.
use Rattle.std.specs.Prelude.{Bool, ◌&&◌, ◌||◌, eqb}
use Rattle.datum.specs.declared.Date.{Date}

abbrev pub is_change_day : Date → Bool
is_change_day d = eqb d.day 1 && (eqb d.month 4 || eqb d.month 10)

abbrev pub is_eve : Date → Bool
is_eve d = (eqb d.day 31 && eqb d.month 3) || (eqb d.day 30 && eqb d.month 9)
