-- `Kalendertag::fixed_day` meets its contract: `find` gives the first entry, and the entries' numbers count from 3 on.
-- Assumes nothing.
use borrow.Author.Rules.{rules}
use borrow.Author.Tests.{tests}
use mathlib.Core.Path.{refl, ap, ◌∙◌}
use Rattle.std.proofs.lemmas.Iterator.{YieldsList-from_slice}
use Rattle.std.proofs.lemmas.Iterator.Search.{find_from_yields_List}
use Rattle.werktag.specs.declared.feiertage.TheConstants.{FIXED_DAYS}
use Rattle.datum.specs.declared.Date.{Date}
use Rattle.werktag.specs.Reason.{place_from, fixed_tests, fixed_place}
use Rattle.werktag.proofs.Rules.{here}
use Rattle.werktag.proofs.Tables.{on_day, reason_place}
use Rattle.werktag.proofs.Kalendertag.fixed_day.Goals as goal

pub returns : goal.returns
unfolding fixed_place
returns c =
    let d = c.tag.inside.date in
    reason_place (λ x. x.2) (on_day d.month d.day) 3 FIXED_DAYS c.find.result c.map.result refl
    (find_from_yields_List (on_day d.month d.day) _ _ c.find.result c.find.ensures.ran
    (YieldsList-from_slice FIXED_DAYS cc) (λ x b q k. search (rules, tests)))
    c.map.ensures.cases (λ y w k. search rules)
    ∙ ap (λ (x : Date). place_from 3 (fixed_tests x.month x.day))
    (here _ _ _ c.tag.invariant c.tag.view_is _ c.self.view_is)
