-- The counterexamples to stronger wordings of the theorem about spans, and what the date of a TooLate is under
-- `LatestMonateUndWerktageBefore`: each computed.
--   refused_span refused_verdict   the first day of the span of Korridor(1) from 3 January 1996 has a refused verdict
--   empty_span empty_verdicts empty_anchors   both anchors of that of Window(1, 0) from 1 January 1996 have, and no
--                    anchor at all is acceptable
--   leaving_verdict leaving_span   Window(5, 0) from 22 December 2899 names a date, and its span leaves the calendar
--   named_first named_other        the date is the first day of the span, and it is another
-- Assumes nothing.
use Prim.Native.Nat.{ℕ, zero, suc, ◌≤◌}
use mathlib.Core.Bool.{Bool}
use mathlib.Core.Logic.{◌≢◌}
use mathlib.Core.Path.{◌≡◌, refl}
use native.Mathlib.Omega.{arith}
use Rattle.zaehlung.specs.Walk.{last, up, past, down, among, add, sub, W, between}
use Rattle.zaehlung.specs.Blocks.{start, at}
use Rattle.datum.specs.Calendar.{is_leap, year_len, days_in_month, date_in, date_of}
use Rattle.datum.specs.MonthShift.{in_month, on_month, add_months, subtract_months}
use Rattle.datum.specs.Monate.{months_later, months_earlier, M}
use Rattle.werktag.specs.declared.HolidayCalendar.TheVariants.{BdewMaKo}
use Rattle.werktag.specs.Easter.{easter_sunday, easter_index}
use Rattle.zaehlung.specs.Lists.{any}
use Rattle.werktag.specs.Werktag.{is_fixed, is_buss_und_bettag, is_easter_feast, is_werktag}
use Rattle.vorlauf.specs.declared.VorlaufShape.TheVariants.{WindowWerktageBefore}
use Rattle.vorlauf.specs.declared.VorlaufVerdict.TheVariants.{Ok}
use Rattle.vorlauf.specs.declared.Span.TheVariants.{Both}
use Rattle.vorlauf.specs.Verdict.{closes, reaches, not_after, check_of}
use Rattle.vorlauf.specs.Span.{span_of}
use Rattle.spannen.specs.Named.{MonateUndWerktageMayName, MonateUndWerktageMayMiss}
use Rattle.spannen.specs.Sharp.{RefusedAnchorSpan, RefusedAnchorVerdict, RefusedSpan, RefusedSpanVerdicts}
use Rattle.spannen.specs.Sharp.{RefusedSpanAcceptsNone, LeavingSpanVerdict, LeavingSpan, LeavingSpanBeginsNever}
use Rattle.spannen.proofs.SpansShapes.{shape_spans}
use Rattle.std.specs.Prelude.{Some, None}

abbrev w : ℕ → Bool
w = is_werktag BdewMaKo

pub refused_span : RefusedAnchorSpan
unfolding span_of add sub up down
    is_werktag is_fixed is_buss_und_bettag is_easter_feast any
    easter_index easter_sunday date_in at start year_len days_in_month is_leap
refused_span = refl

pub refused_verdict : RefusedAnchorVerdict
unfolding check_of closes reaches add sub up down
    is_werktag is_fixed is_buss_und_bettag is_easter_feast any
    easter_index easter_sunday date_in at start year_len days_in_month is_leap
refused_verdict = refl

zero_span : span_of w (WindowWerktageBefore 1 0) 0 ≡ Some (Both 0 1)
unfolding span_of W past add up
    is_werktag is_fixed is_buss_und_bettag is_easter_feast any
    easter_index easter_sunday date_in at start year_len days_in_month is_leap
zero_span = refl

zero_refused : (a : ℕ) → a ≤ 1 → check_of w (WindowWerktageBefore 1 0) 0 a ≡ None
unfolding check_of closes reaches sub down
    is_werktag is_fixed is_buss_und_bettag is_easter_feast any
    easter_index easter_sunday date_in at start year_len days_in_month is_leap
zero_refused zero h = refl
zero_refused (suc zero) h = refl
zero_refused (suc (suc a)) h = absurd (omega arith)

zero_anchors : (a : ℕ) → a ≤ last → check_of w (WindowWerktageBefore 1 0) 0 a ≢ Some Ok
zero_anchors a h p =
    let inside : span_of w (WindowWerktageBefore 1 0) 0 ≢ None = λ e.
    let s = zero_span in let z : ◌≡◌ {A = ℕ} 0 1 = cc in omega arith in
    let answered : check_of w (WindowWerktageBefore 1 0) 0 a ≢ None =
    λ e. let z : ◌≡◌ {A = ℕ} 0 1 = cc in omega arith in
    let lies = rw zero_span at ((shape_spans w 0 (omega arith) a h (WindowWerktageBefore 1 0) inside answered).0 p) in
    answered (zero_refused a lies.1)

pub empty_span : RefusedSpan
unfolding start year_len days_in_month is_leap
empty_span = zero_span

pub empty_verdicts : RefusedSpanVerdicts
unfolding start year_len days_in_month is_leap
empty_verdicts = λ a i. zero_refused a (rw zero_span at i).1

pub empty_anchors : RefusedSpanAcceptsNone
unfolding start year_len days_in_month is_leap
empty_anchors = zero_anchors

pub leaving_verdict : LeavingSpanVerdict
unfolding check_of closes reaches not_after add sub up down between among
    is_werktag is_fixed is_buss_und_bettag is_easter_feast any
    easter_index easter_sunday date_in at start year_len days_in_month is_leap
leaving_verdict = refl

pub leaving_span : LeavingSpan
unfolding span_of W past add up
    is_werktag is_fixed is_buss_und_bettag is_easter_feast any
    easter_index easter_sunday date_in at start year_len days_in_month is_leap
leaving_span = refl

pub leaving_begins : LeavingSpanBeginsNever
leaving_begins = λ d b. rw leaving_span at b

pub named_first : MonateUndWerktageMayName
unfolding span_of check_of closes reaches not_after W past add sub up down between among
    months_later months_earlier M add_months subtract_months on_month in_month date_of
    is_werktag is_fixed is_buss_und_bettag is_easter_feast any
    easter_index easter_sunday date_in at start year_len days_in_month is_leap
named_first = (1, 11001, refl, refl)

pub named_other : MonateUndWerktageMayMiss
unfolding span_of check_of closes reaches not_after W past add sub up down between among
    months_later months_earlier M add_months subtract_months on_month in_month date_of
    is_werktag is_fixed is_buss_und_bettag is_easter_feast any
    easter_index easter_sunday date_in at start year_len days_in_month is_leap
named_other = (1, 11000, refl, λ b. let e : 10998 ≡ 11000 = b in omega arith)
