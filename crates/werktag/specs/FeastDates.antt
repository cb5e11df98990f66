-- The feasts that move with Easter, as built dates and by their distance from it: for every date of the calendar, and
-- Easter Sunday of its own year. The places of the six feasts count from 0 on.
--   offset place       = the days from Easter Sunday to the feast of that place
--   built_date y place = the date built by that offset from Easter Sunday of the year y
--   DateByDistance         a date is the one so many days from Easter, 60 at most before or after it, exactly if its
--                          distance is that number
--   FeastByDistance        it is one of the six built dates exactly if its distance is one of the six offsets
--   PlaceByDistance        it is the built date of a place exactly if its distance is that place's offset
--   ReasonEitherWay        its reason is the same by built dates and by distance
--   BuiltReasonIsReason    the reason by built dates is the day's reason
--   DistantReasonIsReason  the reason by distance is the day's reason
use Rattle.std.specs.Prelude.{ℕ, ◌≤◌, ◌<◌, ◌≡◌, ◌↔◌, true, ℤ, pos, nat_abs, slice_index_or}
use Rattle.zaehlung.specs.Lists.{any}
use Rattle.datum.specs.declared.Date.{Date}
use Rattle.datum.specs.Calendar.{is_date, days_before}
use Rattle.werktag.specs.declared.HolidayCalendar.TheVariants.{BdewMaKo}
use Rattle.werktag.specs.Easter.{easter_sunday}
use Rattle.werktag.specs.Werktag.{eq_z, easter_offsets}
use Rattle.werktag.specs.Reason.{reason}
use Rattle.werktag.specs.Built.{same_date, days_from, built_dates, distance, reason_by_built, reason_by_distance}

abbrev pub offset : ℕ → ℤ
offset place = slice_index_or easter_offsets place (pos 0)

abbrev pub built_date : ℕ → ℕ → Date
built_date y place = slice_index_or (built_dates y) place (easter_sunday y)

abbrev pub DateByDistance : Type 0
DateByDistance =
    (date : Date) → is_date date ≡ true → (days : ℤ) → nat_abs days ≤ 60 →
    (date ≡ days_from (easter_sunday date.year) days) ↔ (distance date ≡ days)

abbrev pub FeastByDistance : Type 0
FeastByDistance =
    (date : Date) → is_date date ≡ true →
    any (same_date date) (built_dates date.year) ≡ any (eq_z (distance date)) easter_offsets

abbrev pub PlaceByDistance : Type 0
PlaceByDistance =
    (date : Date) → is_date date ≡ true → (place : ℕ) → place < 6 →
    (date ≡ built_date date.year place) ↔ (distance date ≡ offset place)

abbrev pub ReasonEitherWay : Type 0
ReasonEitherWay = (date : Date) → is_date date ≡ true → reason_by_built date ≡ reason_by_distance date

abbrev pub BuiltReasonIsReason : Type 0
BuiltReasonIsReason =
    (date : Date) → is_date date ≡ true → reason_by_built date ≡ reason BdewMaKo (days_before date)

abbrev pub DistantReasonIsReason : Type 0
DistantReasonIsReason =
    (date : Date) → is_date date ≡ true → reason_by_distance date ≡ reason BdewMaKo (days_before date)
