-- The rule of the year index, over the whole table in one go.
--   whole      each entry is the one before it and the Werktage of the year between, from 0 on: computed once
--   entry_is   so entry k is the Werktage before 1 January of the year 1996 + k
--   all_is     the calendar has as many Werktage as the last entry says
-- Source: document 02, F-3: 'for each year from 1996 to 2900 the Werktage before its first of January, counted from 1
-- January 1996. Its rule is shown over the whole table in one go.'
-- Assumes nothing.
use Prim.Native.Nat.{ℕ, suc, ◌+◌, ◌≤◌}
use mathlib.Core.Bool.{true}
use mathlib.Core.Path.{◌≡◌, refl, sym, ap, ◌∙◌}
use native.Mathlib.Omega.{arith}
use lib.ListN.{get_or}
use Rattle.zaehlung.specs.Walk.{last, count}
use Rattle.zaehlung.specs.Lists.{each}
use Rattle.zaehlung.specs.Blocks.{start}
use Rattle.zaehlung.proofs.BlockLaws.{starts, starts_at}
use Rattle.datum.specs.Calendar.{is_leap, year_len, year_start, days_in_month}
use Rattle.datum.proofs.Years.{start_all}
use Rattle.werktag.specs.declared.HolidayCalendar.{HolidayCalendar}
use Rattle.werktag.specs.Easter.{easter_sunday}
use Rattle.werktag.specs.Werktag.{is_werktag}
use Rattle.jahre.specs.Year.{on_weekday, weekdays, holidays}
use Rattle.jahre.proofs.Counts.{in_year, yearly, years_count}
use Rattle.jahresindex.specs.Werktage.{werktage}
use Rattle.jahresindex.specs.Entries.{entries}

whole : starts yearly 0 0 entries ≡ true
unfolding starts start in_year weekdays year_len is_leap easter_sunday days_in_month each on_weekday holidays
whole = refl

pub entry_is : (cal : HolidayCalendar) (k : ℕ) → k ≤ 904 → get_or entries k 0 ≡ count (is_werktag cal) (year_start k)
unfolding start
entry_is cal k h =
    let e : 0 + k ≡ k = omega arith in
    rw e at (starts_at yearly entries 0 0 whole refl k (omega arith)) ∙ sym (years_count cal k h)

pub all_is : (cal : HolidayCalendar) → count (is_werktag cal) (suc last) ≡ werktage
all_is cal = ap (count (is_werktag cal)) (sym start_all) ∙ sym (entry_is cal 904 (omega arith))
