-- A year by three numbers: the weekday of its 1 January, its leap days, and Easter Sunday as a day of the year, counted
-- from 0.
-- Assumes nothing.
use Rattle.std.specs.Prelude.{ℕ}

pub record YearNumbers : Type 0 where
  pub first : ℕ
  pub leaps : ℕ
  pub easter : ℕ
