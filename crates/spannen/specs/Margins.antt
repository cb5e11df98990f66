-- The margin of a verdict: for any test of a day, every shape and any transmission day and anchor of the calendar. A
-- judgement is a verdict with its margin.
--   IsEarly verdict          it is TooEarly, by some Werktage
--   JudgementHasVerdict      a judgement's verdict is that of `check`
--   JudgementHasMargin       its margin is that of `margin_of`
--   MarginIsDifference       that is the last permitted transmission day less the day that is held against it
--   EarliestMarginIsAnchors  of `EarliestWerktageAfter` it is the anchor less the n-th Werktag after the transmission
--                            day, so beside Ok too
--   NoJudgementWithoutVerdict   there is no judgement exactly if there is no verdict: the margin adds no refusal
--   NoJudgementWithoutClosing   there is none where the last permitted transmission day leaves the calendar
--   EarliestRefusedByStep    of `EarliestWerktageAfter` there is none exactly if the Werktage leave the calendar
--   MarginFits               a margin is at most the 330,179 days from the calendar's first day to its last, or as many
--                            below zero
--   LateIsNegative           beside TooLate it is negative, whatever the shape
--   NegativeIsLate           it is negative exactly beside TooLate, if the shape is ordered: if it is no
--                            `WindowWerktageBefore` with `earliest` below `latest`
-- Where such a window has a negative margin without TooLate:
--   NegativeWindowIsEarly    the verdict is TooEarly
--   NegativeWindowIsCrossed  and `earliest` is below `latest`
--   NegativeWindow           which happens: on 3 January 1996, Window(1, 3) for the 5th is TooEarly beside −1
use Rattle.std.specs.Prelude.{ℕ, ◌≤◌, ◌<◌, ◌≡◌, ◌↔◌, Bool, ℤ, pos, negsuc, ◌<ℤ◌, ◌-ℤ◌, nat_abs, Some, None}
use Rattle.zaehlung.specs.Walk.{last, add}
use Rattle.werktag.specs.declared.HolidayCalendar.TheVariants.{BdewMaKo}
use Rattle.werktag.specs.Werktag.{is_werktag}
use Rattle.vorlauf.specs.declared.VorlaufShape.{VorlaufShape}
use Rattle.vorlauf.specs.declared.VorlaufShape.TheVariants.{WindowWerktageBefore, EarliestWerktageAfter}
use Rattle.vorlauf.specs.declared.VorlaufVerdict.{VorlaufVerdict}
use Rattle.vorlauf.specs.declared.VorlaufVerdict.TheVariants.{TooEarly}
use Rattle.vorlauf.specs.Verdict.{closes, reaches, check_of}
use Rattle.vorlauf.specs.Margin.{margin_of, judgement_of}
use Rattle.spannen.specs.Sharp.{index_on}
use Rattle.spannen.specs.Late.{IsLate, IsOrdered}

abbrev pub IsEarly : VorlaufVerdict → Type 0
IsEarly verdict = (werktage : ℕ) × (verdict ≡ TooEarly werktage)

abbrev pub JudgementHasVerdict : Type 0
JudgementHasVerdict =
    (is_open : ℕ → Bool) (day anchor : ℕ) (shape : VorlaufShape) (verdict : VorlaufVerdict) (margin : ℤ) →
    judgement_of is_open shape day anchor ≡ Some (verdict, margin) →
    check_of is_open shape day anchor ≡ Some verdict

abbrev pub JudgementHasMargin : Type 0
JudgementHasMargin =
    (is_open : ℕ → Bool) (day anchor : ℕ) (shape : VorlaufShape) (verdict : VorlaufVerdict) (margin : ℤ) →
    judgement_of is_open shape day anchor ≡ Some (verdict, margin) →
    margin_of is_open shape day anchor ≡ Some margin

abbrev pub MarginIsDifference : Type 0
MarginIsDifference =
    (is_open : ℕ → Bool) (day anchor : ℕ) (shape : VorlaufShape) (verdict : VorlaufVerdict) (margin : ℤ)
    (closed reached : ℕ) → judgement_of is_open shape day anchor ≡ Some (verdict, margin) →
    closes is_open shape anchor ≡ Some closed → reaches is_open shape day ≡ Some reached →
    margin ≡ pos closed -ℤ pos reached

abbrev pub EarliestMarginIsAnchors : Type 0
EarliestMarginIsAnchors =
    (is_open : ℕ → Bool) (day anchor n : ℕ) (verdict : VorlaufVerdict) (margin : ℤ) (reached : ℕ) →
    judgement_of is_open (EarliestWerktageAfter n) day anchor ≡ Some (verdict, margin) →
    add is_open day n ≡ Some reached → margin ≡ pos anchor -ℤ pos reached

abbrev pub NoJudgementWithoutVerdict : Type 0
NoJudgementWithoutVerdict =
    (is_open : ℕ → Bool) (day anchor : ℕ) (shape : VorlaufShape) →
    (judgement_of is_open shape day anchor ≡ None) ↔ (check_of is_open shape day anchor ≡ None)

abbrev pub NoJudgementWithoutClosing : Type 0
NoJudgementWithoutClosing =
    (is_open : ℕ → Bool) (day anchor : ℕ) (shape : VorlaufShape) →
    closes is_open shape anchor ≡ None → judgement_of is_open shape day anchor ≡ None

abbrev pub EarliestRefusedByStep : Type 0
EarliestRefusedByStep =
    (is_open : ℕ → Bool) (day anchor n : ℕ) →
    (judgement_of is_open (EarliestWerktageAfter n) day anchor ≡ None) ↔ (add is_open day n ≡ None)

abbrev pub MarginFits : Type 0
MarginFits =
    (is_open : ℕ → Bool) (day anchor : ℕ) (shape : VorlaufShape) (verdict : VorlaufVerdict) (margin : ℤ) →
    judgement_of is_open shape day anchor ≡ Some (verdict, margin) → day ≤ last → anchor ≤ last →
    nat_abs margin ≤ last

abbrev pub LateIsNegative : Type 0
LateIsNegative =
    (is_open : ℕ → Bool) (day anchor : ℕ) (shape : VorlaufShape) (verdict : VorlaufVerdict) (margin : ℤ) →
    judgement_of is_open shape day anchor ≡ Some (verdict, margin) → anchor ≤ last →
    IsLate (Some verdict) → margin <ℤ pos 0

abbrev pub NegativeIsLate : Type 0
NegativeIsLate =
    (is_open : ℕ → Bool) (day anchor : ℕ) (shape : VorlaufShape) (verdict : VorlaufVerdict) (margin : ℤ) →
    judgement_of is_open shape day anchor ≡ Some (verdict, margin) → anchor ≤ last → IsOrdered shape →
    (margin <ℤ pos 0) ↔ IsLate (Some verdict)

abbrev pub NegativeWindowIsEarly : Type 0
NegativeWindowIsEarly =
    (is_open : ℕ → Bool) (day anchor earliest latest : ℕ) (verdict : VorlaufVerdict) (margin : ℤ) → anchor ≤ last →
    judgement_of is_open (WindowWerktageBefore earliest latest) day anchor ≡ Some (verdict, margin) →
    margin <ℤ pos 0 → (IsLate (Some verdict) → ⊥) → IsEarly verdict

abbrev pub NegativeWindowIsCrossed : Type 0
NegativeWindowIsCrossed =
    (is_open : ℕ → Bool) (day anchor earliest latest : ℕ) (verdict : VorlaufVerdict) (margin : ℤ) → anchor ≤ last →
    judgement_of is_open (WindowWerktageBefore earliest latest) day anchor ≡ Some (verdict, margin) →
    margin <ℤ pos 0 → (IsLate (Some verdict) → ⊥) → earliest < latest

abbrev pub NegativeWindow : Type 0
NegativeWindow =
    judgement_of (is_werktag BdewMaKo) (WindowWerktageBefore 1 3) (index_on 1996 1 3) (index_on 1996 1 5)
    ≡ Some (TooEarly 1, negsuc 0)
