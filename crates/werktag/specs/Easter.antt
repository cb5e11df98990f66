-- Easter Sunday.
--   easter_sunday y = its date in the year y
--   easter_index y  = its index
--   easter_for y m  = the same for the months from March to June, in which the feasts lie that move with it; for any
--                     other month a day past the calendar
-- Source: the Anonymous Gregorian algorithm (Nature, 20 April 1876; Meeus, Astronomical Algorithms, chapter 8), in its
-- own letters. No difference in it goes below 0 in a year of the calendar, so natural numbers serve.
use Rattle.std.specs.Prelude.{ℕ, ◌+◌, ◌*◌, ◌-◌, ◌/◌, ◌%◌, ◌&&◌, cond, leb}
use Rattle.zaehlung.specs.Walk.{last}
use Rattle.datum.specs.declared.Date.{Date}
use Rattle.datum.specs.Calendar.{days_before}

unfoldable pub easter_sunday : ℕ → Date
easter_sunday y =
    let a = y % 19 in
    let b = y / 100 in
    let c = y % 100 in
    let d = b / 4 in
    let e = b % 4 in
    let f = (b + 8) / 25 in
    let g = (b - f + 1) / 3 in
    let h = (19 * a + b - d - g + 15) % 30 in
    let i = c / 4 in
    let k = c % 4 in
    let l = (32 + 2 * e + 2 * i - h - k) % 7 in
    let m = (a + 11 * h + 22 * l) / 451 in
    let n = h + l + 114 - 7 * m in
    record { year = y; month = n / 31; day = n % 31 + 1 }

unfoldable pub easter_index : ℕ → ℕ
easter_index y = days_before (easter_sunday y)

unfoldable pub easter_for : ℕ → ℕ → ℕ
easter_for y m = cond (leb 3 m && leb m 6) (easter_index y) (last + 3)
