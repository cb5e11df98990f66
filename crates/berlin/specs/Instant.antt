-- What contracts see of a `Moment` and of a `Clock`: their fields.
--   Instant     a UTC day, counted from 1 January 1970, the second of that day and the nanoseconds
--   TimeOfDay   a second of the day and the nanoseconds
use Rattle.std.specs.Prelude.{ℕ}

pub record Instant : Type 0 where
  pub utcday : ℕ
  pub second : ℕ
  pub nanos : ℕ

pub record TimeOfDay : Type 0 where
  pub second : ℕ
  pub nanos : ℕ
