-- The year index: before each 1 January from 1996 to 2900, how many days of the calendar were Werktage. A year is
-- counted from 1996, as the year 1996 + year.
--   IndexHas905Entries     the table has an entry for each of these years, and no other
--   FirstEntryIsZero       that of 1996 is 0
--   NextEntryAddsYear      each further entry is the one before it and the Werktage of the year between
--   EntryCountsWerktage    so each is the Werktage before 1 January of its year
--   CalendarHasWerktage    and the calendar's Werktage are 222,031, `werktage`
use Rattle.std.specs.Prelude.{ℕ, suc, ◌+◌, ◌≤◌, ◌<◌, ◌≡◌, length, slice_index}
use Rattle.zaehlung.specs.Walk.{last, among, count}
use Rattle.datum.specs.Calendar.{year_len, year_start}
use Rattle.werktag.specs.declared.HolidayCalendar.{HolidayCalendar}
use Rattle.werktag.specs.Werktag.{is_werktag}
use Rattle.jahresindex.specs.Werktage.{werktage}
use Rattle.jahresindex.specs.Entries.{entries}

abbrev pub IndexHas905Entries : Type 0
IndexHas905Entries = length entries ≡ 905

abbrev pub FirstEntryIsZero : Type 0
FirstEntryIsZero = slice_index entries 0 ≡ 0

abbrev pub NextEntryAddsYear : Type 0
NextEntryAddsYear =
    (calendar : HolidayCalendar) (year : ℕ) → year < 904 →
    slice_index entries (year + 1)
    ≡ slice_index entries year + among (is_werktag calendar) (year_start year) (year_len year)

abbrev pub EntryCountsWerktage : Type 0
EntryCountsWerktage =
    (calendar : HolidayCalendar) (year : ℕ) → year ≤ 904 →
    slice_index entries year ≡ count (is_werktag calendar) (year_start year)

abbrev pub CalendarHasWerktage : Type 0
CalendarHasWerktage = (calendar : HolidayCalendar) → count (is_werktag calendar) (suc last) ≡ werktage
