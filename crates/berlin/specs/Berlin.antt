-- Instants, gesetzliche deutsche Zeit and the beginnings of days. An instant is its whole seconds s since
-- 1970-01-01T00:00Z and nanoseconds; a day is its index i in the calendar, counted from 1 January 1996; y is a year.
--   calendar_start           = days from 1 January 1970, from which instants count, to 1 January 1996, from which days
--                              do
--   day_seconds              = the seconds of a day; hours n, minutes n = theirs
--   most_nanos               = the most nanoseconds that an instant or a clock has
--   o_clock h                = the full hour h of the clock
--   day_start i              = 00:00 UTC of the day with index i
--   moment_of s x            = second s and nanoseconds x as a Moment; seconds_of m = the seconds of a Moment
--   is_before a b            = whether the instant a is earlier than b; same_instant a b = whether they are one
--   first_second last_second = the limits of an instant's seconds; in_limits s = whether s lies inside them, is_by_last
--                              s = whether it is not after the last
--   read_instant s x         = the instant of a host's numbers, or None
--   read_clock h m s x       = the time of day of a host's numbers, or None
--   last_sunday y m          = the last Sunday of March (m = 3) or October (m = 10)
--   summer_from y            = the instant at which summer time begins in the year y; summer_to y = that at which it
--                              ends
--   year_at s                = the year in which s lies
--   offset_at s              = how many seconds Berlin is ahead of UTC at s
--   berlin_clock s           = what the Berlin clock shows at s, in seconds since 1970-01-01 00:00 on that clock
--   local_of s               = the same as day and second
--   berlin_day s             = the day in Berlin at s, by its index; berlin_date m = that of a Moment
--   shows s l                = whether the Berlin clock shows l at s
--   berlin_at i c            = the earliest instant at which the Berlin clock shows the time c of day i, or None
--   on_resolved z r f        = f of the instant that a local time means; z where no clock shows it
--   resolved_or r            = the instant of a time that is never absent
--   berlin_midnight i        = the instant at which day i begins; end_of_day_berlin i = its last
--   tagesbeginn_utc i sp     = the instant at which day i begins in the Sparte sp
--   tag_des_beginns m sp     = the day that m begins in the Sparte sp, or None
-- Source: document 01, first paragraph, 'lib.rs, Berlin', 'tagesbeginn.rs' and 'Host calls and their refusals';
-- Directive 2000/84/EC, articles 1 to 3.
use Rattle.std.specs.Prelude.{ℕ, ◌+◌, ◌-◌, ◌*◌, ◌/◌, ◌%◌, Bool, ◌&&◌, ◌||◌, cond, eqb, leb, ltb, ℤ, pos, negsuc}
use Rattle.std.specs.Prelude.{Option, Some, None}
use Rattle.datum.specs.Calendar.{days_before, date_of, weekday}
use Rattle.berlin.specs.declared.Moment.{Moment}
use Rattle.berlin.specs.declared.Clock.{Clock}
use Rattle.berlin.specs.declared.Local.{Local}
use Rattle.berlin.specs.declared.Sparte.{Sparte}
use Rattle.berlin.specs.declared.Sparte.TheVariants.{Strom, Gas}

abbrev pub calendar_start : ℕ
calendar_start = 9496

abbrev pub day_seconds : ℕ
day_seconds = 86400

abbrev pub hours : ℕ → ℕ
hours n = n * 3600

abbrev pub minutes : ℕ → ℕ
minutes n = n * 60

abbrev pub most_nanos : ℕ
most_nanos = 999999999

abbrev pub o_clock : ℕ → Clock
o_clock h = record { second = hours h; nanos = 0 }

abbrev pub day_start : ℕ → ℕ
day_start i = (i + calendar_start) * day_seconds

abbrev pub moment_of : ℕ → ℕ → Moment
moment_of s x = record { utcday = s / day_seconds; second = s % day_seconds; nanos = x }

abbrev pub seconds_of : Moment → ℕ
seconds_of m = m.utcday * day_seconds + m.second

-- 'instants are compared, as `==` does': by seconds, then by nanoseconds
unfoldable pub is_before : Moment → Moment → Bool
is_before a b =
    ltb (seconds_of a) (seconds_of b) || (eqb (seconds_of a) (seconds_of b) && ltb a.nanos b.nanos)

abbrev pub same_instant : Moment → Moment → Bool
same_instant a b = eqb a.utcday b.utcday && (eqb a.second b.second && eqb a.nanos b.nanos)

-- 'seconds from 820,450,800 to 29,348,002,799, which are the instants whose Berlin day is such a date'
abbrev pub first_second : ℕ
first_second = 820450800

abbrev pub last_second : ℕ
last_second = 29348002799

abbrev pub is_by_last : ℕ → Bool
is_by_last s = leb s last_second

unfoldable pub in_limits : ℕ → Bool
in_limits s = leb first_second s && is_by_last s

-- '4, instant outside its limits'; 'nanoseconds 0 to 999,999,999'
unfoldable pub read_instant : ℤ → ℕ → Option Moment
read_instant (pos s) x = cond (in_limits s && leb x most_nanos) (Some (moment_of s x)) None
read_instant (negsuc s) x = None

-- '5, hour over 23, minute or second over 59, nanoseconds over 999,999,999'
unfoldable pub read_clock : ℕ → ℕ → ℕ → ℕ → Option Clock
read_clock h m s x =
    cond (leb h 23 && (leb m 59 && (leb s 59 && leb x most_nanos)))
    (Some (record { second = hours h + minutes m + s; nanos = x }))
    None

-- both months have 31 days; Sunday is weekday 6
unfoldable pub last_sunday : ℕ → ℕ → ℕ
last_sunday y m = let i = days_before (record { year = y; month = m; day = 31 }) in i - (weekday i + 1) % 7

-- 'UTC+1; UTC+2 from the last Sunday of March 01:00 UTC to the last Sunday of October 01:00 UTC'
abbrev pub summer_from : ℕ → ℕ
summer_from y = day_start (last_sunday y 3) + hours 1

abbrev pub summer_to : ℕ → ℕ
summer_to y = day_start (last_sunday y 10) + hours 1

-- by UTC+1, which is Berlin's time at every turn of a year
unfoldable pub year_at : ℕ → ℕ
year_at s = (date_of ((s + hours 1) / day_seconds - calendar_start)).year

unfoldable pub offset_at : ℕ → ℕ
offset_at s = cond (leb (summer_from (year_at s)) s && ltb s (summer_to (year_at s))) (hours 2) (hours 1)

abbrev pub berlin_clock : ℕ → ℕ
berlin_clock s = s + offset_at s

abbrev pub local_of : ℕ → Local
local_of s = record { berlinday = berlin_clock s / day_seconds; second = berlin_clock s % day_seconds }

abbrev pub berlin_day : ℕ → ℕ
berlin_day s = berlin_clock s / day_seconds - calendar_start

abbrev pub berlin_date : Moment → ℕ
berlin_date m = berlin_day (seconds_of m)

abbrev pub shows : ℕ → ℕ → Bool
shows s l = eqb (berlin_clock s) l

-- 'A repeated local time means its earlier instant. An absent one .. is refusal 6.' Berlin is one or two hours ahead of
-- UTC, so there are two instants to try.
unfoldable pub berlin_at : ℕ → Clock → Option Moment
berlin_at i c =
    let l = day_start i + c.second in
    cond (shows (l - hours 2) l)
    (Some (moment_of (l - hours 2) c.nanos))
    (cond (shows (l - hours 1) l) (Some (moment_of (l - hours 1) c.nanos)) None)

abbrev pub on_resolved : {A : Type 0} → A → Option Moment → (Moment → A) → A
on_resolved z (Some m) f = f m
on_resolved z None f = z

abbrev pub resolved_or : Option Moment → Moment
resolved_or r = on_resolved (moment_of 0 0) r (λ m. m)

unfoldable pub berlin_midnight : ℕ → Moment
berlin_midnight i = resolved_or (berlin_at i (o_clock 0))

-- 'An end of day is 23:59:59.999999999.'
unfoldable pub end_of_day_berlin : ℕ → Moment
end_of_day_berlin i = resolved_or (berlin_at i (record { second = day_seconds - 1; nanos = most_nanos }))

-- 'Strom begins at 00:00, Gas at 06:00 Berlin.'
unfoldable pub tagesbeginn_utc : ℕ → Sparte → Moment
tagesbeginn_utc i Strom = berlin_midnight i
tagesbeginn_utc i Gas = resolved_or (berlin_at i (o_clock 6))

-- '7, not the beginning of a day in that Sparte'; tagesbeginn.rs: 'refused, never rounded'
unfoldable pub tag_des_beginns : Moment → Sparte → Option ℕ
tag_des_beginns m sp = let i = berlin_date m in cond (same_instant (tagesbeginn_utc i sp) m) (Some i) None
