-- `Kalendertag::feast` meets its contract: `find` gives the first entry, and the entries' numbers count from 17 on.
-- Assumes nothing.
use borrow.Author.Rules.{rules}
use borrow.Author.Tests.{tests}
use native.Mathlib.Omega.{arith}
use mathlib.Core.List.{map}
use mathlib.Core.Path.{refl, ap, ◌∙◌}
use lib.IntN.{ℤ, ◌-ℤ◌}
use Rattle.std.proofs.lemmas.Iterator.{YieldsList-from_slice}
use Rattle.std.proofs.lemmas.Iterator.Search.{find_from_yields_List}
use Rattle.werktag.specs.declared.feiertage.TheConstants.{EASTER_FEASTS}
use Rattle.werktag.specs.Reason.{place_from, feast_place}
use Rattle.werktag.specs.Werktag.{eq_z, easter_offsets}
use Rattle.datum.proofs.Signed.{back}
use Rattle.werktag.proofs.Rules.{distance_is, feast_by_parts}
use Rattle.werktag.proofs.Tables.{at_distance, reason_place}
use Rattle.werktag.proofs.Kalendertag.feast.Goals as goal

pub returns : goal.returns
unfolding feast_place
returns c =
    let d = back (back c.from.result -ℤ back c.from-2.result) in (
      reason_place (λ x. x.1) (at_distance d) 17 EASTER_FEASTS c.find.result c.map.result refl
          (find_from_yields_List (at_distance d) _ _ c.find.result c.find.ensures.ran
          (YieldsList-from_slice EASTER_FEASTS cc) (λ x b q k. search (rules, tests)))
          c.map.ensures.cases (λ y w k. search rules)
          ∙ ap (λ (x : ℤ). place_from 17 (map (eq_z x) easter_offsets))
          (distance_is _ _ _ _ c.from.ensures c.from-2.ensures (omega arith) (omega arith))
          ∙ feast_by_parts _ _ _ _ c.self.view_is c.tag.view_is c.self.invariant.1,
      omega arith,
    )
