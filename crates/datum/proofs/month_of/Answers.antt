-- `datum::month_of` meets its contract: computed for every day, in a common year and in a leap year.
-- Assumes nothing.
use Rattle.datum.proofs.Rules.{month_early_leap, month_late_leap, month_early_common}
use Rattle.datum.proofs.Rules.{month_late_common}
use borrow.Author.Rules.{rules}
use Rattle.datum.proofs.month_of.Goals as goal

pub returns-then-day-lt60 : goal.returns-then-day-lt60
returns-then-day-lt60 c = month_early_leap _ _ _ (search rules) (search rules) (search rules)

pub returns-then-leap : goal.returns-then-leap
returns-then-leap c = month_late_leap _ _ _ (search rules) (search rules) (search rules) (search rules)

pub returns-then-day-lt59 : goal.returns-then-day-lt59
returns-then-day-lt59 c = month_early_common _ _ _ (search rules) (search rules) (search rules)

pub returns : goal.returns
returns c = month_late_common _ _ _ (search rules) (search rules) (search rules) (search rules)
