-- The runs of a portfolio: neighbouring pairs in range that begin in the same year.
--   beginning a b = the year in which the pair a, b begins; 0 for a pair out of range
--   opens y z     = whether a pair that begins in z opens a run behind one that begins in y: it is in range, and the
--                   pair before it begins in another year or is out of range
--   openings y zs = how many of the pairs that begin in the years zs open one, behind a pair that begins in y
--   runs xs ys    = how many runs the pairs of two lists have: before the first pair there is none
-- Source: document 02, F-5: 'Where neighbouring pairs begin in the same year, the year's index entry is read once for
-- the run of them. A single pair is a run too, whether or not its second day is later. .. A pair with an out-of-range
-- day .. ends a run and belongs to none.'
-- Assumes nothing.
use Rattle.std.specs.Prelude.{ℕ, ◌+◌, ◌-◌, Bool, not, ◌&&◌, cond, List, [], ◌∷◌, eqb}
use Rattle.zaehlung.specs.Walk.{bit}
use Rattle.datum.specs.Calendar.{first_year, year_of}
use Rattle.portfolio.specs.Portfolio.{first_day, in_range, pairwise}

unfoldable pub beginning : ℕ → ℕ → ℕ
beginning a b = cond (in_range a b) (first_year + (year_of (a - first_day)).0) 0

unfoldable pub opens : ℕ → ℕ → Bool
opens y z = not (eqb z 0) && not (eqb y z)

unfoldable pub openings : ℕ → List ℕ → ℕ
openings y [] = 0
openings y (z ∷ zs) = bit (opens y z) + openings z zs

unfoldable pub runs : List ℕ → List ℕ → ℕ
runs xs ys = openings 0 (pairwise beginning xs ys)
