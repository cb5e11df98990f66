-- What every group of host calls shares: the parameters read, and a refusal where they read as nothing.
--   date_from y m d   = the date in a call's three parameters
--   on_read r o f     = f of what o holds, or refusal r where it holds nothing
--   on_code l x f     = f of the entry numbered x of the list l, counted from 0, or refusal 2 where the list has none
--   sparten           = the Sparten in the order of their codes
--   on_date i f       = f of the index that a given date has, or refusal 3
--   on_instant k f    = f of the instant that was read, or refusal 4
--   on_clock k f      = f of the clock that was read, or refusal 5
--   step_answer s     = the date of the day that a step reached, or refusal 8
--   shift_answer s    = the date that a shift by months reached, or refusal 8
--   moment_answer k m = the seconds and nanoseconds of an instant beside kind k
--   resolved_answer r = the instant of a local time, or refusal 6
--   on_beginn b f     = f of the day that an instant begins, or refusal 7
--   beginn_answer b   = the date of the day that an instant begins, or refusal 7
-- Source: document 01, 'Host calls and their refusals'.
-- Assumes nothing.
use Rattle.std.specs.Prelude.{ℕ, List, [], ◌∷◌, pos, Option, Some, None, Result, Ok, Err, slice_get}
use Rattle.datum.specs.declared.Date.{Date}
use Rattle.datum.specs.Calendar.{date_of}
use Rattle.berlin.specs.declared.Moment.{Moment}
use Rattle.berlin.specs.declared.Clock.{Clock}
use Rattle.berlin.specs.declared.Sparte.{Sparte}
use Rattle.berlin.specs.declared.Sparte.TheVariants.{Strom, Gas}
use Rattle.berlin.specs.Berlin.{seconds_of}
use Rattle.antwortsatz.specs.declared.Answer.{Answer}
use Rattle.antwortsatz.specs.declared.Refusal.{Refusal}
use Rattle.antwortsatz.specs.declared.Refusal.TheVariants.{UnknownCode, NoDate, InstantOutside, NoClock}
use Rattle.antwortsatz.specs.declared.Refusal.TheVariants.{LocalTimeAbsent, NoBeginning, LeavesCalendar}
use Rattle.antwortsatz.specs.Answers.{dated, at_instant}

abbrev pub date_from : ℕ → ℕ → ℕ → Date
date_from y m d = record { year = y; month = m; day = d }

abbrev pub on_read : {A : Type 0} → Refusal → Option A → (A → Result Answer Refusal) → Result Answer Refusal
on_read r (Some x) f = f x
on_read r None f = Err r

-- '2, a code is unknown. Codes count from 0 in the Rust's order of its cases'
abbrev pub on_code : {A : Type 0} → List A → ℕ → (A → Result Answer Refusal) → Result Answer Refusal
on_code l x f = on_read UnknownCode (slice_get l x) f

abbrev pub sparten : List Sparte
sparten = Strom ∷ Gas ∷ []

-- '3, a given date is no date of the range'
abbrev pub on_date : Option ℕ → (ℕ → Result Answer Refusal) → Result Answer Refusal
on_date i f = on_read NoDate i f

-- '4, instant outside its limits'
abbrev pub on_instant : Option Moment → (Moment → Result Answer Refusal) → Result Answer Refusal
on_instant k f = on_read InstantOutside k f

-- '5, hour over 23, minute or second over 59, nanoseconds over 999,999,999'
abbrev pub on_clock : Option Clock → (Clock → Result Answer Refusal) → Result Answer Refusal
on_clock k f = on_read NoClock k f

-- 'A step fills the date'; '8, a result leaves the calendar'
abbrev pub step_answer : Option ℕ → Result Answer Refusal
step_answer s = on_read LeavesCalendar s (λ i. Ok (dated (date_of i)))

abbrev pub shift_answer : Option Date → Result Answer Refusal
shift_answer s = on_read LeavesCalendar s (λ d. Ok (dated d))

abbrev pub moment_answer : ℕ → Moment → Answer
moment_answer k m = at_instant k (pos (seconds_of m)) m.nanos

-- '6, local time absent'
abbrev pub resolved_answer : Option Moment → Result Answer Refusal
resolved_answer r = on_read LocalTimeAbsent r (λ m. Ok (moment_answer 0 m))

-- '7, not the beginning of a day in that Sparte'
abbrev pub on_beginn : Option ℕ → (ℕ → Result Answer Refusal) → Result Answer Refusal
on_beginn b f = on_read NoBeginning b f

abbrev pub beginn_answer : Option ℕ → Result Answer Refusal
beginn_answer b = on_beginn b (λ i. Ok (dated (date_of i)))
