-- `schritte::index::werktage_before`: the answers that the check does not find by itself.
-- Assumes nothing.
use Rattle.schritte.proofs.IndexRules.{more_at, more_in_year, more_fits, sum_at, sum_most, sum_fits}
use Rattle.schritte.proofs.index.werktage_before.Goals as goal

pub overflow_add-at : goal.overflow_add-at
overflow_add-at c = let e = c.year_day-at.ensures in
    more_fits c.args.cal c.args.day _ _ c.args.more e.3 e.0 e.1 c.requires

pub werktage_in_year-requires : goal.werktage_in_year-requires
werktage_in_year-requires c = let e = c.year_day-at.ensures in (
  e.2,
  more_in_year c.args.cal c.args.day _ _ c.args.more e.3 e.0 e.1 c.requires,
)

pub overflow_add-result : goal.overflow_add-result
overflow_add-result c =
    let e = c.year_day-at.ensures in
    sum_fits c.args.cal _ _ _ _ e.2 (more_in_year c.args.cal c.args.day _ _ c.args.more e.3 e.0 e.1 c.requires)
    c.werktage_before_year.ensures.0 c.werktage_in_year.ensures.0

pub returns : goal.returns
returns c =
    let e = c.year_day-at.ensures in
    let g = more_in_year c.args.cal c.args.day _ _ c.args.more e.3 e.0 e.1 c.requires in
    let b = c.werktage_before_year.ensures.0 in
    let m = c.werktage_in_year.ensures.0 in (
      sum_at c.args.cal _ _ _ _ e.2 g b m _ (more_at c.args.cal c.args.day _ _ c.args.more e.3 e.0 e.1 c.requires),
      sum_most c.args.cal _ _ _ _ e.2 g b m,
    )
