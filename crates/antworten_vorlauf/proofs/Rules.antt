-- What the proof of the span of `LatestMonateBefore` cites: what was reached by dates is what is reached by days.
-- Assumes nothing.
use Prim.Native.Nat.{ℕ}
use mathlib.Core.Bool.{Bool, true, false}
use mathlib.Core.Path.{◌≡◌, sym, ◌∙◌}
use Rattle.std.specs.Prelude.{Option, Some, None, Result, Ok, Err}
use Rattle.datum.specs.declared.Date.{Date}
use Rattle.datum.specs.Calendar.{is_date, index_of, days_before}
use Rattle.datum.specs.Monate.{to_step, M}
use Rattle.datum.specs.Inside.{InsideShift}
use Rattle.datum.proofs.Dates.{date_index, valid_is}
use Rattle.antwortsatz.specs.declared.Answer.{Answer}
use Rattle.antwortsatz.specs.declared.Refusal.{Refusal}
use Rattle.antwortsatz.specs.declared.Refusal.TheVariants.{NoDate, LeavesCalendar}
use Rattle.antwortsatz.specs.Answers.{spanned}
use Rattle.antworten.specs.Reading.{on_date}
use Rattle.vorlauf.specs.Span.{span_from}
use Rattle.antworten_vorlauf.specs.VorlaufReading.{span_answer}

abbrev month_span : Date → ℕ → Result Answer Refusal
month_span d n = on_date (index_of d) (λ t. span_answer (span_from (M n t)))

-- b is what `is_date` returned, s what `months_or_first_date` did
module _ (d : Date) (n : ℕ) (b : Bool) (e : b ≡ is_date d) where
  pub no_month_date : b ≡ false → Err NoDate ≡ month_span d n
  unfolding index_of
  no_month_date g = rw (sym e ∙ g)

  module _ (g : b ≡ true) (s : Option Date) (p : to_step s ≡ M n (days_before d)) where
    pub month_first :
        (f : Date) (r : Answer) → InsideShift s → s ≡ Some f → r ≡ spanned 0 f None → Ok r ≡ month_span d n
    unfolding index_of
    month_first f r h q v = rw (sym e ∙ g, ← p, q, date_index f (valid_is f (rw q at h)), v)

    pub month_gone : s ≡ None → Err LeavesCalendar ≡ month_span d n
    unfolding index_of
    month_gone q = rw (sym e ∙ g, ← p, q)
