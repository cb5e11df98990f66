-- `jahresindex::year_of_werktag` meets its contract: the years with fewer Werktage before the next one are the first.
-- Assumes nothing.
use borrow.Author.Rules.{rules}
use lib.Dec.{ltb}
use Rattle.std.specs.Prelude.{drop}
use Rattle.std.proofs.lemmas.List.Sorted.{IsPartitionPoint-from_clause}
use Rattle.jahresindex.specs.Entries.{entries}
use Rattle.jahresindex.proofs.Rules.{parted, is_year}
use Rattle.jahresindex.proofs.year_of_werktag.Goals as goal

pub returns : goal.returns
returns c =
    let n = c.args.n in
    let p =
    IsPartitionPoint-from_clause (λ y. ltb y n) (drop 1 entries) _ c.partition_point-k.ensures.partitioned (parted n)
    (λ a r f' k. search rules) in
    is_year c.args.cal n c.partition_point-k.result c.requires.0 c.requires.1 (search rules) p
