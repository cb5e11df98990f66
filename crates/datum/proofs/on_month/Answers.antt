-- `datum::on_month` meets its contract: after the two tests the number is a natural one, where signed division is the
-- unsigned one.
-- Assumes nothing.
use Rattle.datum.proofs.MonthRules.{early, late, in_range_lem, month_fits, month_cast, within, on_it}
use Rattle.std.specs.Prelude.{Some}
use Rattle.datum.proofs.on_month.Goals as goal

pub returns-then-year-lt-FIRST_YEAR_64 : goal.returns-then-year-lt-FIRST_YEAR_64
returns-then-year-lt-FIRST_YEAR_64 c =
    let s = c.split_months-at in
    early c.args.t s.result.year s.result.month c.args.day c.ranges.t s.ensures.0 s.ensures.1
    c.if-year-lt-FIRST_YEAR_64.true

pub returns-then-year-gt-LAST_YEAR_64 : goal.returns-then-year-gt-LAST_YEAR_64
returns-then-year-gt-LAST_YEAR_64 c =
    let s = c.split_months-at in
    late c.args.t s.result.year s.result.month c.args.day c.ranges.t s.ensures.0 s.ensures.1
    c.if-year-gt-LAST_YEAR_64.true

pub overflow_add-month : goal.overflow_add-month
overflow_add-month c =
    let s = c.split_months-at in
    let r = in_range_lem c.args.t s.result.year s.result.month c.args.day c.ranges.t s.ensures.0 s.ensures.1
    c.if-year-lt-FIRST_YEAR_64.false c.if-year-gt-LAST_YEAR_64.false in
    month_fits r

pub overflow_cast-month : goal.overflow_cast-month
overflow_cast-month c =
    let s = c.split_months-at in
    let r = in_range_lem c.args.t s.result.year s.result.month c.args.day c.ranges.t s.ensures.0 s.ensures.1
    c.if-year-lt-FIRST_YEAR_64.false c.if-year-gt-LAST_YEAR_64.false in
    month_cast r

pub in_month-requires : goal.in_month-requires
in_month-requires c =
    let s = c.split_months-at in
    let r = in_range_lem c.args.t s.result.year s.result.month c.args.day c.ranges.t s.ensures.0 s.ensures.1
    c.if-year-lt-FIRST_YEAR_64.false c.if-year-gt-LAST_YEAR_64.false in
    within r

pub returns : goal.returns
returns c =
    let s = c.split_months-at in
    let r = in_range_lem c.args.t s.result.year s.result.month c.args.day c.ranges.t s.ensures.0 s.ensures.1
    c.if-year-lt-FIRST_YEAR_64.false c.if-year-gt-LAST_YEAR_64.false in
    on_it r c.args.day (Some c.in_month.result) c.in_month.ensures
