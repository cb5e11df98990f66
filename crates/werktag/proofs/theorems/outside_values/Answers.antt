use mathlib.Core.Path.{refl}
use Rattle.zaehlung.specs.Blocks.{start, at}
use Rattle.zaehlung.specs.Lists.{any}
use Rattle.datum.specs.Calendar.{is_leap, year_len, days_in_month, date_in, date_of}
use Rattle.werktag.specs.Easter.{easter_sunday, easter_index}
use Rattle.werktag.specs.Werktag.{is_fixed, is_buss_und_bettag, is_easter_feast, is_werktag}
use Rattle.werktag.specs.Reason.{place_from, reason}
use Rattle.werktag.specs.Built.{built_dates, distance, reason_by_built, reason_by_distance}
use Rattle.werktag.proofs.theorems.outside_values.Goals as goal

pub returns-clause-easter_sundays : goal.returns-clause-easter_sundays
unfolding easter_sunday
returns-clause-easter_sundays c = refl

pub returns-clause-werktage : goal.returns-clause-werktage
unfolding is_werktag is_fixed is_buss_und_bettag is_easter_feast any easter_index easter_sunday date_in at start
    year_len days_in_month is_leap
returns-clause-werktage c = refl

pub returns-clause-edges : goal.returns-clause-edges
unfolding is_werktag is_fixed is_buss_und_bettag is_easter_feast any easter_index easter_sunday date_in at start
    year_len days_in_month is_leap
returns-clause-edges c = refl

pub returns-clause-holidays : goal.returns-clause-holidays
unfolding reason place_from is_buss_und_bettag easter_index easter_sunday date_in at start year_len days_in_month
    is_leap
returns-clause-holidays c = refl

pub returns-clause-precedence : goal.returns-clause-precedence
unfolding reason place_from is_buss_und_bettag easter_index easter_sunday date_in at start year_len days_in_month
    is_leap
returns-clause-precedence c = refl

pub returns-clause-feasts : goal.returns-clause-feasts
unfolding built_dates easter_sunday date_of date_in at start year_len days_in_month is_leap
returns-clause-feasts c = refl

pub returns-clause-himmelfahrt : goal.returns-clause-himmelfahrt
unfolding built_dates easter_sunday date_of date_in at start year_len days_in_month is_leap
returns-clause-himmelfahrt c = refl

pub returns-clause-distances : goal.returns-clause-distances
unfolding distance easter_index easter_sunday start year_len days_in_month is_leap
returns-clause-distances c = refl

pub returns-clause-built_reasons : goal.returns-clause-built_reasons
unfolding reason_by_built place_from is_buss_und_bettag built_dates easter_sunday date_of date_in at start year_len
    days_in_month is_leap
returns-clause-built_reasons c = refl

pub returns-clause-distant_reasons : goal.returns-clause-distant_reasons
unfolding reason_by_distance place_from is_buss_und_bettag distance easter_index easter_sunday start year_len
    days_in_month is_leap
returns-clause-distant_reasons c = refl
