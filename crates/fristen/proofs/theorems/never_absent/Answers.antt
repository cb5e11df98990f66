use Rattle.fristen.proofs.NeverAbsent.{contrl_never, change_never, hours_never, strom_never, nth_never, end_never}
use Rattle.fristen.proofs.NeverAbsent.{gas_never, werktag_at_never, end_of_werktag_never, same_day_never}
use Rattle.fristen.proofs.NeverAbsent.{same_day_at_absent}
use Rattle.fristen.proofs.theorems.never_absent.Goals as goal

pub returns-clause-contrl : goal.returns-clause-contrl
returns-clause-contrl c = contrl_never

pub returns-clause-contrl_change : goal.returns-clause-contrl_change
returns-clause-contrl_change c = change_never

pub returns-clause-hours : goal.returns-clause-hours
returns-clause-hours c = hours_never

pub returns-clause-aperak_strom : goal.returns-clause-aperak_strom
returns-clause-aperak_strom c = strom_never

pub returns-clause-nth_werktag : goal.returns-clause-nth_werktag
returns-clause-nth_werktag c = nth_never

pub returns-clause-end_of_werktag : goal.returns-clause-end_of_werktag
returns-clause-end_of_werktag c = end_never

pub returns-clause-aperak_gas : goal.returns-clause-aperak_gas
returns-clause-aperak_gas c = gas_never

pub returns-clause-shape_werktag_at : goal.returns-clause-shape_werktag_at
returns-clause-shape_werktag_at c = werktag_at_never

pub returns-clause-shape_end_of_werktag : goal.returns-clause-shape_end_of_werktag
returns-clause-shape_end_of_werktag c = end_of_werktag_never

pub returns-clause-shape_same_day : goal.returns-clause-shape_same_day
returns-clause-shape_same_day c = same_day_never

pub returns-clause-shape_same_day_at : goal.returns-clause-shape_same_day_at
returns-clause-shape_same_day_at c = same_day_at_absent
