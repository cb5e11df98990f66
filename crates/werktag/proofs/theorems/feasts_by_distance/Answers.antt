use Rattle.werktag.proofs.EasterDistance.{built_by, built_exactly, built_place}
use Rattle.werktag.proofs.EasterDistance.{reason_either_way, reason_by_built_lem, reason_by_distance_lem}
use Rattle.werktag.proofs.theorems.feasts_by_distance.Goals as goal

pub returns-clause-date : goal.returns-clause-date
returns-clause-date c = built_by

pub returns-clause-feast : goal.returns-clause-feast
returns-clause-feast c = built_exactly

pub returns-clause-place : goal.returns-clause-place
returns-clause-place c = built_place

pub returns-clause-reason : goal.returns-clause-reason
returns-clause-reason c = reason_either_way

pub returns-clause-built_reason : goal.returns-clause-built_reason
returns-clause-built_reason c = reason_by_built_lem

pub returns-clause-distant_reason : goal.returns-clause-distant_reason
returns-clause-distant_reason c = reason_by_distance_lem
