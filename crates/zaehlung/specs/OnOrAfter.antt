-- Steps that begin on the day itself, by how many open days come before a day, `count`: the first open day on or after
-- a day, `next`, and the day after the n-th open day on or after it, `W`. For any test of a day, any days of the
-- calendar, 0 to `last`, and any n; a day that passes the test is open.
--   NextReaches      `next` is a day exactly if that is open, in the calendar, and as many open days come before it as
--                    before the given day
--   NextLeaves       it leaves the calendar exactly if no open day comes on the day or after it
--   NextStaysInside  a day that it reaches lies in the calendar
--   NextOfOpenDay    of an open day it is the day itself
--   NextOfShutDay    of any other it is the first open day after it
--   WReaches         from n = 1 on, `W` is a day exactly if that is the day after an open one, in the calendar, and n
--                    more open days come before it than before the given day
--   WLeaves          it leaves the calendar exactly if fewer than n open days lie from the day to the last day but one
--   WOfNone          for n = 0 it is the given day itself, open or not
--   WStaysInside     a day that it reaches lies in the calendar
--   WOfOpenDay       from n = 1 on, of an open day it is the day after a step on of n - 1 open days
--   WOfShutDay       from n = 1 on, of any other it is the day after a step on of n open days
--   WIsDayAfterAdd   it is the day after a step on from another day, both from n = 1 on, if as many open days come up
--                    to both ends
use Rattle.std.specs.Prelude.{ℕ, suc, ◌+◌, ◌-◌, ◌≤◌, ◌<◌, ◌≡◌, ◌↔◌, Bool, true, false, Some, None}
use Rattle.zaehlung.specs.Walk.{last, on_step, day_after, add, next, W, count}

abbrev pub NextReaches : Type 0
NextReaches =
    (is_open : ℕ → Bool) (day end : ℕ) → day ≤ last →
    (next is_open day ≡ Some end) ↔
    ((is_open end ≡ true) × (count is_open end ≡ count is_open day) × (end ≤ last))

abbrev pub NextLeaves : Type 0
NextLeaves =
    (is_open : ℕ → Bool) (day : ℕ) → day ≤ last →
    (next is_open day ≡ None) ↔ (count is_open (suc last) < count is_open day + 1)

abbrev pub NextStaysInside : Type 0
NextStaysInside = (is_open : ℕ → Bool) (day end : ℕ) → day ≤ last → next is_open day ≡ Some end → end ≤ last

abbrev pub NextOfOpenDay : Type 0
NextOfOpenDay = (is_open : ℕ → Bool) (day : ℕ) → is_open day ≡ true → next is_open day ≡ Some day

abbrev pub NextOfShutDay : Type 0
NextOfShutDay = (is_open : ℕ → Bool) (day : ℕ) → is_open day ≡ false → next is_open day ≡ add is_open day 1

abbrev pub WReaches : Type 0
WReaches =
    (is_open : ℕ → Bool) (day n end : ℕ) → day ≤ last → 1 ≤ n →
    (W is_open day n ≡ Some end) ↔
    ((before : ℕ) × (end ≡ suc before) × (is_open before ≡ true)
    × (count is_open end ≡ count is_open day + n) × (end ≤ last))

abbrev pub WLeaves : Type 0
WLeaves =
    (is_open : ℕ → Bool) (day n : ℕ) → day ≤ last →
    (W is_open day n ≡ None) ↔ (count is_open last < count is_open day + n)

abbrev pub WOfNone : Type 0
WOfNone = (is_open : ℕ → Bool) (day : ℕ) → W is_open day 0 ≡ Some day

abbrev pub WStaysInside : Type 0
WStaysInside = (is_open : ℕ → Bool) (day n end : ℕ) → day ≤ last → W is_open day n ≡ Some end → end ≤ last

abbrev pub WOfOpenDay : Type 0
WOfOpenDay =
    (is_open : ℕ → Bool) (day n : ℕ) → day ≤ last → 1 ≤ n → is_open day ≡ true →
    W is_open day n ≡ on_step None (add is_open day (n - 1)) day_after

abbrev pub WOfShutDay : Type 0
WOfShutDay =
    (is_open : ℕ → Bool) (day n : ℕ) → day ≤ last → 1 ≤ n → is_open day ≡ false →
    W is_open day n ≡ on_step None (add is_open day n) day_after

abbrev pub WIsDayAfterAdd : Type 0
WIsDayAfterAdd =
    (is_open : ℕ → Bool) (day n other m : ℕ) → day ≤ last → 1 ≤ n → other ≤ last → 1 ≤ m →
    count is_open day + n ≡ count is_open (suc other) + m →
    W is_open day n ≡ on_step None (add is_open other m) day_after
