use native.Mathlib.Omega.{arith}
use Rattle.berlin.proofs.Proper.{midnight_earliest, end_earliest}
use Rattle.berlin.proofs.Tiling.{end_last}
use Rattle.berlin.proofs.Zeit.{tiling}
use Rattle.berlin.proofs.theorems.days_tile.Goals as goal

pub returns-clause-midnight_shown : goal.returns-clause-midnight_shown
returns-clause-midnight_shown c = midnight_earliest

pub returns-clause-end_shown : goal.returns-clause-end_shown
returns-clause-end_shown c = end_earliest

pub returns-clause-tile : goal.returns-clause-tile
returns-clause-tile c = tiling

pub returns-clause-end_last : goal.returns-clause-end_last
returns-clause-end_last c = λ i s h from to e. end_last i s h (omega arith)

pub returns-clause-end_inside : goal.returns-clause-end_inside
returns-clause-end_inside c = λ i h. let e = end_earliest i h in omega (arith, e.shown)
