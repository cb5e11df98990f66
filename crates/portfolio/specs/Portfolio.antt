-- The counts of a portfolio: two lists of days, pair by pair, and the Werktage between the two days of each pair. A day
-- is a number of days from 1 January 1970 on. w is the test of a day: a Werktag by some list.
--   is_portfolio n m k  = whether lists of n and m days and one of k counts may be a portfolio
--   first_day, last_day = 9,496 and 339,675: 1 January 1996 and 31 December 2899
--   in_calendar a       = whether the day a lies in the calendar
--   in_range a b        = whether both days of the pair a, b do
--   pair_count w a b    = the count of the pair a, b
--   pairwise f xs ys    = f of each pair of the two lists
--   counts_of w xs ys   = the counts of all pairs
-- Source: document 02, F-5: 'The contract team sends two lists of day numbers since 1970, 32 bits each, and wants
-- `werktage_between` for each pair in a third list'; '10 .. if the three lists differ in length or have over 4,096
-- entries'; 'A pair with an out-of-range day gives 4,294,967,295 at its place'.
-- Assumes nothing.
use Rattle.std.specs.Prelude.{ℕ, ◌-◌, Bool, ◌&&◌, cond, List, [], ◌∷◌, eqb, leb}
use Rattle.zaehlung.specs.Walk.{between}

unfoldable pub is_portfolio : ℕ → ℕ → ℕ → Bool
is_portfolio n m k = leb n 4096 && (eqb m n && eqb k n)

abbrev pub first_day : ℕ
first_day = 9496

abbrev pub last_day : ℕ
last_day = 339675

abbrev pub in_calendar : ℕ → Bool
in_calendar a = leb first_day a && leb a last_day

unfoldable pub in_range : ℕ → ℕ → Bool
in_range a b = in_calendar a && in_calendar b

unfoldable pub pair_count : (ℕ → Bool) → ℕ → ℕ → ℕ
pair_count w a b = cond (in_range a b) (between w (a - first_day) (b - first_day)) 4294967295

unfoldable pub pairwise : (ℕ → ℕ → ℕ) → List ℕ → List ℕ → List ℕ
pairwise f [] ys = []
pairwise f (x ∷ xs) [] = []
pairwise f (x ∷ xs) (y ∷ ys) = f x y ∷ pairwise f xs ys

abbrev pub counts_of : (ℕ → Bool) → List ℕ → List ℕ → List ℕ
counts_of w = pairwise (pair_count w)
