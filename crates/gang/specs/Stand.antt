-- The steps of a walk from weekday to weekday.
--   to_weekday w   = the days from a day with the weekday w to the next day from Monday to Friday
--   from_weekday w = the days back to the last one before it
-- Source: document 02, F-4: 'take the date apart once, and compare one distance from Easter'.
use Rattle.std.specs.Prelude.{ℕ, ◌-◌, cond, eqb, ltb}

-- from Friday, Saturday and Sunday to Monday, from any other day to the next
unfoldable pub to_weekday : ℕ → ℕ
to_weekday w = cond (ltb w 4) 1 (7 - w)

-- from Monday and Sunday back to Friday, from any other day to the one before
unfoldable pub from_weekday : ℕ → ℕ
from_weekday w = cond (eqb w 0) 3 (cond (eqb w 6) 2 1)
