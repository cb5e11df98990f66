use Rattle.std.proofs.Common.{◌≡◌, ℕ}
use Rattle.spannen.proofs.Margin.{margin_days, judged_parts, judged_iff, refused_closes, refused_earliest, margin_fits}
use Rattle.spannen.proofs.Margin.{late_negative, negative_iff, window_early, early_negative}
use Rattle.vorlauf.specs.declared.VorlaufShape.TheVariants.{EarliestWerktageAfter}
use Rattle.vorlauf.specs.Verdict.{closes, reaches}
use Rattle.spannen.proofs.verdict_margin.Goals as goal

pub returns-clause-verdict : goal.returns-clause-verdict
returns-clause-verdict c = λ w t a s v m j. (judged_parts w t a s v m j).0

pub returns-clause-margin : goal.returns-clause-margin
returns-clause-margin c = λ w t a s v m j. (judged_parts w t a s v m j).1

pub returns-clause-difference : goal.returns-clause-difference
returns-clause-difference c = λ w t a s v m x y j p q.
    let d = margin_days w t a s v m j in
    let f : x ≡ d.0 = cc (d.2) in
    let g : y ≡ d.1 = cc (d.3) in
    cc (d.4)

pub returns-clause-earliest_difference : goal.returns-clause-earliest_difference
unfolding closes reaches
returns-clause-earliest_difference c = λ w t a n v m y j q.
    let d = margin_days w t a (EarliestWerktageAfter n) v m j in
    let f : a ≡ d.0 = cc (d.2) in
    let g : y ≡ d.1 = cc (d.3) in
    cc (d.4)

pub returns-clause-refused : goal.returns-clause-refused
returns-clause-refused c = judged_iff

pub returns-clause-refused_closing : goal.returns-clause-refused_closing
returns-clause-refused_closing c = refused_closes

pub returns-clause-refused_earliest : goal.returns-clause-refused_earliest
returns-clause-refused_earliest c = refused_earliest

pub returns-clause-fits : goal.returns-clause-fits
returns-clause-fits c = λ w t a s v m j ht ha. margin_fits w t a s v m j ha ht

pub returns-clause-late : goal.returns-clause-late
returns-clause-late c = late_negative

pub returns-clause-negative : goal.returns-clause-negative
returns-clause-negative c = negative_iff

pub returns-clause-window_early : goal.returns-clause-window_early
returns-clause-window_early c = λ w t a m n v z ha j k l. (window_early w t a m n v z ha j k l).0

pub returns-clause-window_crossed : goal.returns-clause-window_crossed
returns-clause-window_crossed c = λ w t a m n v z ha j k l. (window_early w t a m n v z ha j k l).1

pub returns-clause-window_happens : goal.returns-clause-window_happens
returns-clause-window_happens c = early_negative
