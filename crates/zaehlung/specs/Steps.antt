-- Steps and counts are one thing: where n open days on from a day or back from it lead, by how many open days come
-- before a day, `count`. For any test of a day, any days of the calendar, 0 to `last`, and any n; a day that passes the
-- test is open. Before `suc day` come the open days up to and with `day`.
--   AddReaches     from n = 1 on, a step on reaches a day exactly if that is open, in the calendar, and n more open
--                  days come up to and with it than up to and with the day of the step
--   SubReaches     from n = 1 on, a step back reaches a day exactly if that is open, and n fewer open days come before
--                  it than before the day of the step
--   AddLeaves      a step on leaves the calendar exactly if fewer than n open days come after the day
--   SubLeaves      a step back leaves it exactly if fewer than n open days come before the day
--   AddOfNone      no open day on is the day itself, open or not
--   SubOfNone      no open day back is the day itself, open or not
--   AddStaysInside   a day that a step on reaches lies in the calendar
--   SubStaysInside   a day that a step back reaches lies in it too
--   AddFromElsewhere   two steps on, each from n = 1 on, give the same if as many open days come up to both ends
--   SubIsAddFromElsewhere   a step back gives the same as a step on from another day, each from n = 1 on, if as many
--                  open days come up to both ends
use Rattle.std.specs.Prelude.{ℕ, suc, ◌+◌, ◌≤◌, ◌<◌, ◌≡◌, ◌↔◌, Bool, true, Some, None}
use Rattle.zaehlung.specs.Walk.{last, add, sub, count}

abbrev pub AddReaches : Type 0
AddReaches =
    (is_open : ℕ → Bool) (day n end : ℕ) → day ≤ last → 1 ≤ n →
    (add is_open day n ≡ Some end) ↔
    ((is_open end ≡ true) × (count is_open (suc end) ≡ count is_open (suc day) + n) × (end ≤ last))

abbrev pub SubReaches : Type 0
SubReaches =
    (is_open : ℕ → Bool) (day n end : ℕ) → 1 ≤ n →
    (sub is_open day n ≡ Some end) ↔ ((is_open end ≡ true) × (count is_open end + n ≡ count is_open day))

abbrev pub AddLeaves : Type 0
AddLeaves =
    (is_open : ℕ → Bool) (day n : ℕ) → day ≤ last →
    (add is_open day n ≡ None) ↔ (count is_open (suc last) < count is_open (suc day) + n)

abbrev pub SubLeaves : Type 0
SubLeaves = (is_open : ℕ → Bool) (day n : ℕ) → (sub is_open day n ≡ None) ↔ (count is_open day < n)

abbrev pub AddOfNone : Type 0
AddOfNone = (is_open : ℕ → Bool) (day : ℕ) → add is_open day 0 ≡ Some day

abbrev pub SubOfNone : Type 0
SubOfNone = (is_open : ℕ → Bool) (day : ℕ) → sub is_open day 0 ≡ Some day

abbrev pub AddStaysInside : Type 0
AddStaysInside = (is_open : ℕ → Bool) (day n end : ℕ) → day ≤ last → add is_open day n ≡ Some end → end ≤ last

abbrev pub SubStaysInside : Type 0
SubStaysInside = (is_open : ℕ → Bool) (day n end : ℕ) → day ≤ last → sub is_open day n ≡ Some end → end ≤ last

abbrev pub AddFromElsewhere : Type 0
AddFromElsewhere =
    (is_open : ℕ → Bool) (day n other m : ℕ) → day ≤ last → 1 ≤ n → other ≤ last → 1 ≤ m →
    count is_open (suc day) + n ≡ count is_open (suc other) + m → add is_open day n ≡ add is_open other m

-- the day at which `sub` ends is open: up to and with it come one more than before it, hence the 1
abbrev pub SubIsAddFromElsewhere : Type 0
SubIsAddFromElsewhere =
    (is_open : ℕ → Bool) (day n other m : ℕ) → day ≤ last → 1 ≤ n → other ≤ last → 1 ≤ m →
    count is_open (suc other) + m + n ≡ count is_open day + 1 → sub is_open day n ≡ add is_open other m
