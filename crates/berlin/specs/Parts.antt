-- Instants are compared by their parts: the UTC day, the second of that day, the nanoseconds. The first part in which
-- two differ decides. Nothing is asked of them but that their seconds are seconds of a day: they may lie anywhere.
--   OnInstants claim         the claim holds of any two such instants
--   EarlierDayIsBefore       one on an earlier day is before the other
--   LaterDayIsNotBefore      one on a later day is not
--   EarlierSecondIsBefore    on the same day, one at an earlier second is before the other
--   LaterSecondIsNotBefore   on the same day, one at a later second is not
--   NanosDecideInSecond      in the same second, one is before the other exactly if its nanoseconds are fewer
use Rattle.std.specs.Prelude.{◌<◌, ◌≡◌, nat_lt, true, false}
use Rattle.berlin.specs.declared.Moment.{Moment}
use Rattle.berlin.specs.Berlin.{day_seconds, is_before}

abbrev pub OnInstants : (Moment → Moment → Type 0) → Type 0
OnInstants claim =
    (one other : Moment) → one.second < day_seconds → other.second < day_seconds → claim one other

abbrev pub EarlierDayIsBefore : Type 0
EarlierDayIsBefore = OnInstants (λ one other. one.utcday < other.utcday → is_before one other ≡ true)

abbrev pub LaterDayIsNotBefore : Type 0
LaterDayIsNotBefore = OnInstants (λ one other. other.utcday < one.utcday → is_before one other ≡ false)

abbrev pub EarlierSecondIsBefore : Type 0
EarlierSecondIsBefore =
    OnInstants (λ one other. one.utcday ≡ other.utcday → one.second < other.second → is_before one other ≡ true)

abbrev pub LaterSecondIsNotBefore : Type 0
LaterSecondIsNotBefore =
    OnInstants (λ one other. one.utcday ≡ other.utcday → other.second < one.second → is_before one other ≡ false)

abbrev pub NanosDecideInSecond : Type 0
NanosDecideInSecond =
    OnInstants (λ one other. one.utcday ≡ other.utcday → one.second ≡ other.second →
    is_before one other ≡ nat_lt one.nanos other.nanos)
