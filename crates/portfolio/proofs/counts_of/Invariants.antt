-- `portfolio::counts_of` meets its contract. The loop's invariant: the counts so far, and the entries read so far with
-- those that the pairs still to come will need, are those of all pairs.
-- Assumes nothing.
use mathlib.Core.Path.{◌≡◌}
use Rattle.std.specs.Prelude.{IfSome}
use Rattle.werktag.specs.Werktag.{is_werktag}
use Rattle.portfolio.specs.Inside.{year_of_run}
use Rattle.portfolio.proofs.Counted.{Counted}
use Rattle.portfolio.proofs.counts_of.Given as goal

abbrev pub invariant-loop-i : goal.invariant-loop-i
invariant-loop-i l = record {
  same_calendar : IfSome l.run (λ y. y.calendar ≡ l.cal);
  counted : Counted (is_werktag l.cal) l.from l.to l.counts l.i l.read (year_of_run l.run);
}
