-- Days tile the time line, by their midnights: no instant of the calendar lies between two days or in both. A day is
-- its index, an instant its seconds, from the limits' first to their last.
--   next_midnight day   = the second at which the day after begins; for the calendar's last day, the first after the
--                         limits
--   MidnightIsShown     a day's midnight is the earliest instant that shows 00:00 of it: that is never absent
--   EndIsShown          its end is the earliest that shows 23:59:59.999999999
--   DaysTile            an instant's Berlin day is the given one exactly if it lies from that day's midnight on and
--                       before the next
--   EndIsLast           no instant of a day lies in a second after that of its end
--   EndIsInDay          the end of a day lies in that day
use Rattle.std.specs.Prelude.{ℕ, suc, ◌+◌, ◌-◌, ◌<◌, ◌≤◌, ◌≡◌, ◌↔◌, nat_lt, if◌then◌else◌}
use Rattle.zaehlung.specs.Walk.{last}
use Rattle.berlin.specs.Berlin.{day_seconds, most_nanos, o_clock, seconds_of, first_second, last_second, berlin_day}
use Rattle.berlin.specs.Berlin.{berlin_midnight, end_of_day_berlin}
use Rattle.berlin.specs.LocalTimes.{Earliest}

abbrev pub next_midnight : ℕ → ℕ
next_midnight day = if nat_lt day last then seconds_of (berlin_midnight (suc day)) else last_second + 1

abbrev pub MidnightIsShown : Type 0
MidnightIsShown = (day : ℕ) → day ≤ last → Earliest day (o_clock 0) (berlin_midnight day)

abbrev pub EndIsShown : Type 0
EndIsShown =
    (day : ℕ) → day ≤ last →
    Earliest day (record { second = day_seconds - 1; nanos = most_nanos }) (end_of_day_berlin day)

abbrev pub DaysTile : Type 0
DaysTile =
    (day second : ℕ) → day ≤ last → first_second ≤ second → second ≤ last_second →
    (berlin_day second ≡ day) ↔ ((seconds_of (berlin_midnight day) ≤ second) × (second < next_midnight day))

abbrev pub EndIsLast : Type 0
EndIsLast =
    (day second : ℕ) → day ≤ last → first_second ≤ second → second ≤ last_second → berlin_day second ≡ day →
    second ≤ seconds_of (end_of_day_berlin day)

abbrev pub EndIsInDay : Type 0
EndIsInDay = (day : ℕ) → day ≤ last → berlin_day (seconds_of (end_of_day_berlin day)) ≡ day
