-- How many Werktage the calendar has. `jahresindex::theorems::year_index.all` proves it; nobody need believe it.
--   werktage = 222,031, the last entry of the year index
-- Assumes nothing.
use Rattle.std.specs.Prelude.{ℕ}

abbrev pub werktage : ℕ
werktage = 222031
