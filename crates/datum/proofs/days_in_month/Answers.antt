-- `datum::days_in_month` meets its contract: February by the leap year, every other month by its number.
-- Assumes nothing.
use native.Mathlib.Omega.{arith}
use Rattle.datum.proofs.Rules.{len_zero, len_none, len_leap, len_february, len_other}
use borrow.Author.Rules.{rules}
use Rattle.datum.proofs.days_in_month.Goals as goal

pub returns-then-month-lt1 : goal.returns-then-month-lt1
returns-then-month-lt1 c = (search (rules, len_zero), omega arith)

pub returns-then-month-gt-MONTHS : goal.returns-then-month-gt-MONTHS
returns-then-month-gt-MONTHS c = (search (rules, len_none), omega arith)

pub returns-then-leap : goal.returns-then-leap
returns-then-leap c = (search (rules, len_leap), omega arith)

pub returns-then-month-eq2 : goal.returns-then-month-eq2
returns-then-month-eq2 c = (search (rules, len_february), omega arith)

pub returns : goal.returns
returns c = (search (rules, len_other, c.if-month-eq2.false), omega arith)
