-- Months before and after a day given by its index, BGB §188.
--   to_step s          = the index of the date that a shift by months reached, or Outside
--   months_later i n   = day i and n months: `add_months`
--   months_earlier i n = day i less n months: `subtract_months`
--   M n i              = day i and n months, or, where the day was cut to the month's last, the first of the next
--                        month: `months_or_first`
-- Source: BGB §188 Abs. 2 and 3; document 01, lib.rs and 'The span of anchors'.
use Rattle.std.specs.Prelude.{ℕ, suc, ◌+◌, ◌/◌, ◌%◌, cond, leb, pos, Option, Some, None}
use Rattle.datum.specs.Calendar.{is_leap, days_in_month, days_before, date_of}
use Rattle.datum.specs.MonthShift.{ordinal_of, on_month, add_months, subtract_months}
use Rattle.datum.specs.declared.Date.{Date}

abbrev pub to_step : Option Date → Option ℕ
to_step (Some d) = Some (days_before d)
to_step None = None

-- 'Months: a day the target month lacks becomes its last (BGB §188).'
unfoldable pub months_later : ℕ → ℕ → Option ℕ
months_later i n = to_step (add_months (date_of i) n)

unfoldable pub months_earlier : ℕ → ℕ → Option ℕ
months_earlier i n = to_step (subtract_months (date_of i) n)

-- 'M(m, d) is d plus m months, or, if the day was cut to the month's last, the first of the next month.'
unfoldable pub M : ℕ → ℕ → Option ℕ
M n i =
    let d = date_of i in
    let t = ordinal_of d + n in
    cond (leb d.day (days_in_month (is_leap (t / 12)) (t % 12 + 1)))
    (to_step (on_month (pos t) d.day))
    (to_step (on_month (pos (suc t)) 1))
