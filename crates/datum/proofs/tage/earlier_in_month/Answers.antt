-- `datum::tage::earlier_in_month`: the answers that the check does not find by itself.
-- Assumes nothing.
use Prim.Native.Nat.{◌-◌}
use mathlib.Core.Path.{ap}
use Rattle.datum.proofs.TagRules.{tag_back_in_month, same_month}
use Rattle.datum.proofs.tage.earlier_in_month.Goals as goal

pub invariant_of-result : goal.invariant_of-result
invariant_of-result c =
    tag_back_in_month _ _ _ _ c.tag.invariant c.tag.view_is c.requires.near.0 c.requires.near.1 c.requires.in_month

pub returns : goal.returns
returns c =
    let h =
    tag_back_in_month _ _ _ _ c.tag.invariant c.tag.view_is c.requires.near.0 c.requires.near.1 c.requires.in_month
    in
    record {
      value = ap (λ n. n - c.args.days) c.tag.view_is;
      same_month = same_month _ _ _ _ _ c.tag.invariant c.tag.view_is h.0;
    }
