-- A date as one number, between two functions of this crate; no reader need believe it.
--   number_of d = the number of a date
--   parts_of n  = the date of a number
use Rattle.std.specs.Prelude.{ℕ, ◌+◌, ◌*◌, ◌/◌, ◌%◌}
use Rattle.datum.specs.declared.Date.{Date}

abbrev pub number_of : Date → ℕ
number_of d = d.year + 65536 * d.month + 16777216 * d.day

abbrev pub parts_of : ℕ → Date
parts_of n = record { year = n % 65536; month = n / 65536 % 256; day = n / 16777216 }
