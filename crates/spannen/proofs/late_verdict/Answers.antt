use Rattle.std.proofs.Common.{◌≡◌, ℕ}
use Rattle.spannen.proofs.SpansLate.{late_says}
use Rattle.spannen.proofs.Closes.{late_after, late_iff}
use Rattle.spannen.proofs.late_verdict.Goals as goal

pub returns-clause-after : goal.returns-clause-after
returns-clause-after c = λ w t a s x y ha. late_after w t a ha s x y

pub returns-clause-exactly_after : goal.returns-clause-exactly_after
returns-clause-exactly_after c = λ w t a s x y ha. late_iff w t a ha s x y

pub returns-clause-shortfall : goal.returns-clause-shortfall
returns-clause-shortfall c = λ w t a s x y b z p q h.
    let e = late_says w t a b z s h in
    let f : x ≡ e.last_day_lem = cc (e.closed) in
    let g : y ≡ e.held = cc (e.reached) in
    cc (e.short)

pub returns-clause-date : goal.returns-clause-date
returns-clause-date c = λ w t a s b z h. (late_says w t a b z s h).named
