use Prim.Native.Nat.{suc, ◌+◌}
use mathlib.Core.Path.{◌≡◌, refl, ap}
use native.Mathlib.Omega.{arith}
use Rattle.zaehlung.specs.Walk.{count}
use Rattle.zaehlung.proofs.BlockLaws.{start_suc}
use Rattle.zaehlung.proofs.Count.{count_among}
use Rattle.datum.specs.Calendar.{year_len, year_start}
use Rattle.werktag.specs.Werktag.{is_werktag}
use Rattle.jahresindex.proofs.Table.{entry_is, all_is}
use Rattle.jahresindex.proofs.theorems.year_index.Goals as goal

pub returns-clause-length : goal.returns-clause-length
returns-clause-length c = refl

pub returns-clause-first : goal.returns-clause-first
returns-clause-first c = refl

pub returns-clause-next : goal.returns-clause-next
returns-clause-next c = λ cal k h.
    let w = is_werktag cal in
    let e : k + 1 ≡ suc k = omega arith in
    let y = ap (count w) (start_suc year_len k) in
    let a = count_among w (year_start k) (year_len k) in
    rw e (omega (arith, entry_is cal k (omega arith), entry_is cal (suc k) (omega arith)))

pub returns-clause-entry : goal.returns-clause-entry
returns-clause-entry c = entry_is

pub returns-clause-all : goal.returns-clause-all
returns-clause-all c = all_is
