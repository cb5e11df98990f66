-- `portfolio::counts_of` meets its contract, by the invariant beside it.
-- Assumes nothing.
use borrow.Author.Rules.{rules}
use Rattle.portfolio.proofs.Counted.{none_counted, one_more, all_counted, all_opened, of_calendar}
use Rattle.portfolio.proofs.counts_of.Goals as goal

pub loop-i-init : goal.loop-i-init
loop-i-init c = record { same_calendar = tt; counted = none_counted _ _ _ _ c.requires }

pub loop-i-preserved : goal.loop-i-preserved
loop-i-preserved c = record {
  same_calendar = of_calendar _ _ _ _ c.go_on.ensures.goes;
  counted =
      one_more _ _ _ _ _ _ _ c.loop-i.invariant.counted c.args.cal _ _ _ _ (search rules) c.pair_count.ensures
      c.go_on.ensures.goes c.go_on.ensures.value c.from-read.ensures;
}

pub returns-clause-counts_after : goal.returns-clause-counts_after
returns-clause-counts_after c = all_counted _ _ _ _ _ _ _ c.loop-i.invariant.counted (search rules)

pub returns-clause-value : goal.returns-clause-value
returns-clause-value c = all_opened _ _ _ _ _ _ _ c.loop-i.invariant.counted (search rules)
