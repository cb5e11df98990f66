-- How many days after one day, up to and with another, are open, `between`: by how many open days come before a day,
-- `count`, and beside a step. For any test of a day; a day that passes it is open. Before `suc day` come the open days
-- up to and with `day`.
--   BetweenIsDifference   it is the difference of the counts up to and with the two days, if the second isn't earlier
--   BetweenUnlessLater    it is 0 if the second isn't later
--   BetweenUndoesAdd      from the day of a step of n open days to the day that it reaches, it is n
--   AddUndoesBetween      a step on by it, to a later open day of the calendar, reaches that day
use Rattle.std.specs.Prelude.{ℕ, suc, ◌+◌, ◌≤◌, ◌<◌, ◌≡◌, Bool, true, Some}
use Rattle.zaehlung.specs.Walk.{last, add, between, count}

abbrev pub BetweenIsDifference : Type 0
BetweenIsDifference =
    (is_open : ℕ → Bool) (from to : ℕ) → from ≤ to →
    between is_open from to + count is_open (suc from) ≡ count is_open (suc to)

abbrev pub BetweenUnlessLater : Type 0
BetweenUnlessLater = (is_open : ℕ → Bool) (from to : ℕ) → to ≤ from → between is_open from to ≡ 0

abbrev pub BetweenUndoesAdd : Type 0
BetweenUndoesAdd =
    (is_open : ℕ → Bool) (day n end : ℕ) → day ≤ last → add is_open day n ≡ Some end → between is_open day end ≡ n

abbrev pub AddUndoesBetween : Type 0
AddUndoesBetween =
    (is_open : ℕ → Bool) (day end : ℕ) → day < end → end ≤ last → is_open end ≡ true →
    add is_open day (between is_open day end) ≡ Some end
