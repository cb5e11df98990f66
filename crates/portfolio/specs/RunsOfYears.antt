-- Runs as a reader would count them, on the years in which pairs begin, 0 for a pair out of range. `before` is that
-- year of the pair before them, 0 where there is none.
--   NoPairNoRun            no pair, no run
--   OneYearIsOneRun        any number of pairs that begin in one year, one alone too, are one run
--   OutOfRangeParts        a pair out of range parts the runs before it from those behind it, and belongs to none
--   NewYearTurns           where the year changes, one run ends and another begins
--   NoMoreRunsThanPairs    there are at most as many runs as pairs
use Rattle.std.specs.Prelude.{ℕ, suc, ◌+◌, ◌≤◌, ◌≡◌, ◌≢◌, List, [], ◌∷◌, ◌++◌, length, replicate}
use Rattle.portfolio.specs.Runs.{openings}

abbrev pub NoPairNoRun : Type 0
NoPairNoRun = (before : ℕ) → openings before [] ≡ 0

abbrev pub OneYearIsOneRun : Type 0
OneYearIsOneRun = (more year : ℕ) → year ≢ 0 → openings 0 (replicate (suc more) year) ≡ 1

abbrev pub OutOfRangeParts : Type 0
OutOfRangeParts =
    (before : ℕ) (earlier later : List ℕ) →
    openings before (earlier ++ 0 ∷ later) ≡ openings before earlier + openings 0 later

abbrev pub NewYearTurns : Type 0
NewYearTurns =
    (before old_year new_year : ℕ) (earlier later : List ℕ) → old_year ≢ new_year →
    openings before (earlier ++ old_year ∷ new_year ∷ later)
    ≡ openings before (earlier ++ old_year ∷ []) + openings 0 (new_year ∷ later)

abbrev pub NoMoreRunsThanPairs : Type 0
NoMoreRunsThanPairs = (before : ℕ) (years : List ℕ) → openings before years ≤ length years
