-- `datum::is_date` meets its contract: a day that every month has needs no look at the month's length.
-- Assumes nothing.
use borrow.Author.Rules.{rules}
use Rattle.datum.proofs.Rules.{in_every_month}
use Rattle.datum.proofs.is_date.Goals as goal
use Rattle.datum.proofs.is_date.Goals.{then-contains, else-contains, then-contains-2, else-contains-2}

pub returns-then-day-le-SHORTEST_MONTH : goal.returns-then-day-le-SHORTEST_MONTH
returns-then-day-le-SHORTEST_MONTH c =
    elim c.if-contains-2.branch [
      | then-contains-2 w ↦ search (rules, in_every_month)
      | else-contains-2 w ↦ search rules
    ]
