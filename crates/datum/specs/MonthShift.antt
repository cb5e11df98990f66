-- A date shifted by months, BGB §188: the day of the same number, or the month's last day where the month lacks it.
--   ordinal_of d        = the number of a date's month, counted from January of year 0
--   on_month t x        = day x of the month numbered t, as above, or Outside where the calendar lacks that month
--   add_months d n      = n months later
--   subtract_months d n = n months earlier
-- Source: BGB §188 Abs. 2 and 3; document 01, lib.rs: 'a day the target month lacks becomes its last', and refusal 8.
use Rattle.std.specs.Prelude.{ℕ, ◌+◌, ◌-◌, ◌*◌, ◌/◌, ◌%◌, min, ◌&&◌, cond, leb, ℤ, pos, negsuc, ◌+ℤ◌, ◌-ℤ◌, Option}
use Rattle.std.specs.Prelude.{Some, None}
use Rattle.datum.specs.declared.Date.{Date}
use Rattle.datum.specs.Calendar.{first_year, last_year, is_leap, days_in_month}

abbrev pub ordinal_of : Date → ℕ
ordinal_of d = d.year * 12 + (d.month - 1)

-- the day in month m of year y
unfoldable pub in_month : ℕ → ℕ → ℕ → Option Date
in_month y m x =
    cond (leb first_year y && leb y last_year)
    (Some (record { year = y; month = m; day = min x (days_in_month (is_leap y) m) }))
    None

unfoldable pub on_month : ℤ → ℕ → Option Date
on_month (pos t) x = in_month (t / 12) (t % 12 + 1) x
on_month (negsuc t) x = None

unfoldable pub add_months : Date → ℕ → Option Date
add_months d n = on_month (pos (ordinal_of d) +ℤ pos n) d.day

unfoldable pub subtract_months : Date → ℕ → Option Date
subtract_months d n = on_month (pos (ordinal_of d) -ℤ pos n) d.day
