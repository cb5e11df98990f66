-- Instants are compared by what the Berlin clock shows at them: before a midnight, or before a full second outside the
-- hour from 02:00, the clock shows an earlier time, and from then on it does not.
--   BeforeMidnightShowsEarlier     an instant is before a day's midnight exactly if the clock shows an earlier day
--   BeforeFullSecondShowsEarlier   it is before a full second of a day exactly if the clock shows an earlier time, if
--                                  that second does not lie from 02:00 to before 03:00
use Rattle.std.specs.Prelude.{ℕ, ◌+◌, ◌<◌, ◌≤◌, ◌≡◌, nat_lt, Some}
use Rattle.zaehlung.specs.Walk.{last}
use Rattle.berlin.specs.declared.Moment.{Moment}
use Rattle.berlin.specs.declared.Clock.{Clock}
use Rattle.berlin.specs.Berlin.{hours, day_start, seconds_of, is_before, berlin_clock, berlin_at, berlin_midnight}
use Rattle.berlin.specs.Inside.{ProperClock}

abbrev pub BeforeMidnightShowsEarlier : Type 0
BeforeMidnightShowsEarlier =
    (day : ℕ) (moment : Moment) → day ≤ last →
    is_before moment (berlin_midnight day) ≡ nat_lt (berlin_clock (seconds_of moment)) (day_start day)

abbrev pub BeforeFullSecondShowsEarlier : Type 0
BeforeFullSecondShowsEarlier =
    (day : ℕ) (clock : Clock) (moment full_second : Moment) → day ≤ last → ProperClock clock → clock.nanos ≡ 0 →
    (hours 2 ≤ clock.second → clock.second < hours 3 → ⊥) → berlin_at day clock ≡ Some full_second →
    is_before moment full_second ≡ nat_lt (berlin_clock (seconds_of moment)) (day_start day + clock.second)
