use mathlib.Core.Path.{refl, sym}
use Rattle.datum.specs.Calendar.{date_of}
use Rattle.datum.specs.MonthShift.{add_months}
use Rattle.datum.proofs.Months.{m_kept, m_cut, m_out, m_inside}
use Rattle.datum.proofs.theorems.month_or_first_of_next.Goals as goal

pub returns-clause-kept : goal.returns-clause-kept
returns-clause-kept c = λ i n e q h. sym (m_kept n i (date_of i) (add_months (date_of i) n) refl refl e q h)

pub returns-clause-cut : goal.returns-clause-cut
returns-clause-cut c = λ i n e q h. sym (m_cut n i (date_of i) (add_months (date_of i) n) refl refl e _ _ q h refl refl)

pub returns-clause-leaves : goal.returns-clause-leaves
returns-clause-leaves c = λ i n h q. sym (m_out n i (date_of i) (add_months (date_of i) n) refl refl h q)

pub returns-clause-inside : goal.returns-clause-inside
returns-clause-inside c = m_inside
