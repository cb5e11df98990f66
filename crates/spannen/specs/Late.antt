-- When a verdict is TooLate, and what it then says: for any test of a day, every shape, and a transmission day and an
-- anchor of the calendar. `closes` is the last permitted transmission day for the anchor, `reaches` the day that is
-- held against it.
--   IsLate verdict    there is a verdict, and it is TooLate, with some shortfall and some date
--   IsOrdered shape   it is no `WindowWerktageBefore` with `earliest` below `latest`
--   date_of_late is_open shape day anchor   the date that a TooLate of the shape names, as the original computes it:
--                     `LatestWerktageAfter` the anchor itself, `Korridor` its opening day
--   LateIsAfter       a verdict is TooLate only where the day comes after the last permitted one, whatever the shape
--   LateIsAfterIfOrdered   a verdict that isn't refused is TooLate exactly there, if the shape is ordered
--   LateHasShortfall  its shortfall is the Werktage after the last permitted day up to and with the day
--   LateNamesDate     and its date is that of the shape
-- Months:
--   MonthsBeforeAreExact   a day is not after the anchor less n months exactly if the anchor is not before M(n, day)
use Rattle.std.specs.Prelude.{ℕ, ◌≤◌, ◌<◌, ◌≡◌, ◌≢◌, ◌↔◌, Bool, Option, Some, None}
use Rattle.zaehlung.specs.Walk.{last, on_step, add, sub, between}
use Rattle.datum.specs.Monate.{months_later, months_earlier, M}
use Rattle.vorlauf.specs.declared.VorlaufShape.{VorlaufShape}
use Rattle.vorlauf.specs.declared.VorlaufShape.TheVariants.{LatestWerktageBefore, WindowWerktageBefore}
use Rattle.vorlauf.specs.declared.VorlaufShape.TheVariants.{LatestWerktageAfter, EarliestWerktageAfter, Korridor}
use Rattle.vorlauf.specs.declared.VorlaufShape.TheVariants.{TagVorDemLetztenWerktagVor, LatestMonateBefore}
use Rattle.vorlauf.specs.declared.VorlaufShape.TheVariants.{LatestMonateUndWerktageBefore}
use Rattle.vorlauf.specs.declared.VorlaufVerdict.{VorlaufVerdict}
use Rattle.vorlauf.specs.declared.VorlaufVerdict.TheVariants.{TooLate}
use Rattle.vorlauf.specs.Verdict.{closes, reaches, fruehester_termin_nach_tag_vor_dem_letzten_werktag, check_of}

abbrev pub IsLate : Option VorlaufVerdict → Type 0
IsLate verdict = (shortfall : ℕ) × (date : ℕ) × (verdict ≡ Some (TooLate shortfall date))

abbrev pub IsOrdered : VorlaufShape → Type 0
IsOrdered (LatestWerktageBefore n) = Unit {0}
IsOrdered (WindowWerktageBefore earliest latest) = latest ≤ earliest
IsOrdered (LatestWerktageAfter n) = Unit {0}
IsOrdered (EarliestWerktageAfter n) = Unit {0}
IsOrdered (Korridor n) = Unit {0}
IsOrdered TagVorDemLetztenWerktagVor = Unit {0}
IsOrdered (LatestMonateBefore n) = Unit {0}
IsOrdered (LatestMonateUndWerktageBefore monate werktage) = Unit {0}

abbrev pub LateIsAfter : Type 0
LateIsAfter =
    (is_open : ℕ → Bool) (day anchor : ℕ) (shape : VorlaufShape) (closed reached : ℕ) → anchor ≤ last →
    closes is_open shape anchor ≡ Some closed → reaches is_open shape day ≡ Some reached →
    IsLate (check_of is_open shape day anchor) → closed < reached

abbrev pub LateIsAfterIfOrdered : Type 0
LateIsAfterIfOrdered =
    (is_open : ℕ → Bool) (day anchor : ℕ) (shape : VorlaufShape) (closed reached : ℕ) → anchor ≤ last →
    closes is_open shape anchor ≡ Some closed → reaches is_open shape day ≡ Some reached →
    IsOrdered shape → check_of is_open shape day anchor ≢ None →
    IsLate (check_of is_open shape day anchor) ↔ (closed < reached)

abbrev pub date_of_late : (ℕ → Bool) → VorlaufShape → ℕ → ℕ → Option ℕ
date_of_late is_open (LatestWerktageBefore n) day anchor = add is_open day n
date_of_late is_open (WindowWerktageBefore earliest latest) day anchor = add is_open day latest
date_of_late is_open (LatestWerktageAfter n) day anchor = Some anchor
date_of_late is_open (EarliestWerktageAfter n) day anchor = add is_open day n
date_of_late is_open (Korridor n) day anchor = sub is_open anchor n
date_of_late is_open TagVorDemLetztenWerktagVor day anchor =
    fruehester_termin_nach_tag_vor_dem_letzten_werktag is_open day
date_of_late is_open (LatestMonateBefore n) day anchor = months_later day n
date_of_late is_open (LatestMonateUndWerktageBefore monate werktage) day anchor =
    on_step None (add is_open day werktage) (λ d. months_later d monate)

abbrev pub LateHasShortfall : Type 0
LateHasShortfall =
    (is_open : ℕ → Bool) (day anchor : ℕ) (shape : VorlaufShape) (closed reached shortfall date : ℕ) →
    closes is_open shape anchor ≡ Some closed → reaches is_open shape day ≡ Some reached →
    check_of is_open shape day anchor ≡ Some (TooLate shortfall date) →
    shortfall ≡ between is_open closed reached

abbrev pub LateNamesDate : Type 0
LateNamesDate =
    (is_open : ℕ → Bool) (day anchor : ℕ) (shape : VorlaufShape) (shortfall date : ℕ) →
    check_of is_open shape day anchor ≡ Some (TooLate shortfall date) →
    date_of_late is_open shape day anchor ≡ Some date

abbrev pub MonthsBeforeAreExact : Type 0
MonthsBeforeAreExact =
    (day anchor n closed first : ℕ) → day ≤ last → anchor ≤ last →
    months_earlier anchor n ≡ Some closed → M n day ≡ Some first → (day ≤ closed) ↔ (first ≤ anchor)
