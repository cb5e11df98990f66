-- Why no due instant but that of `SameDayAt` is Absent: the statements stand in specs/. w is any test of a day that no
-- Sunday passes.
--   sunday_shut     the holiday list's test is one
--   switches_shut   on neither of the two days on which the clock changes is there a Werktag
--   werktag_shown   so on a Werktag no local time is absent
--   later_never     any instant that is counted in seconds
use Prim.Native.Nat.{ℕ, ◌*◌, ◌≤◌}
use mathlib.Core.Bool.{Bool, true, false}
use mathlib.Core.Path.{◌≡◌, refl, sym}
use native.Mathlib.Omega.{arith}
use Rattle.std.specs.Prelude.{Some, None, Err}
use Rattle.std.proofs.lemmas.Grind.{common_steps}
use Rattle.zaehlung.specs.Walk.{last, add}
use Rattle.zaehlung.proofs.Laws.{add_iff, day_after_is}
use Rattle.datum.specs.Calendar.{date_of}
use Rattle.datum.proofs.Dates.{index_date}
use Rattle.werktag.proofs.Reasons.{weekend_shut}
use Rattle.berlin.specs.declared.Moment.{Moment}
use Rattle.berlin.specs.Berlin.{last_sunday, berlin_at}
use Rattle.berlin.specs.Inside.{ProperClock}
use Rattle.berlin.proofs.Proper.{day_le, not_absent}
use Rattle.berlin.proofs.Found.{absent_when}
use Rattle.berlin.proofs.Zeit.{switch_days}
use Rattle.fristen.specs.declared.NoDue.TheVariants.{Absent}
use Rattle.fristen.specs.Fristen.{noon, instant_later, contrl_due_at, contrl_due_at_change, nth_werktag_at}
use Rattle.fristen.specs.Fristen.{end_of_werktag_after, aperak_strom_due_at, aperak_gas_due_at}
use Rattle.fristen.specs.FristShape.{same_day_at, due_at_of}
use Rattle.fristen.specs.NeverAbsent.{SundaysAreShut, WerktagShutsSundays, OpenDayShowsEachClock}
use Rattle.fristen.specs.NeverAbsent.{ContrlIsNeverAbsent, ContrlChangeIsNeverAbsent, AddedHoursAreNeverAbsent}
use Rattle.fristen.specs.NeverAbsent.{AperakStromIsNeverAbsent, NthWerktagIsNeverAbsent, EndOfWerktagIsNeverAbsent}
use Rattle.fristen.specs.NeverAbsent.{AperakGasIsNeverAbsent, WerktagAtIsNeverAbsent}
use Rattle.fristen.specs.NeverAbsent.{EndOfWerktagShapeIsNeverAbsent, SameDayIsNeverAbsent}
use Rattle.fristen.specs.NeverAbsent.{SameDayAtIsAbsentIfUnshown}

pub sunday_shut : WerktagShutsSundays
sunday_shut cal i e = weekend_shut cal i (omega arith)

-- a Werktag after a day
reached : (w : ℕ → Bool) (d n e : ℕ) → d ≤ last → 1 ≤ n → add w d n ≡ Some e → (w e ≡ true) × (e ≤ last)
reached w d n e h l q = let r = (add_iff w d n e h l).0 q in (r.0, r.2)

pub switches_shut :
    (w : ℕ → Bool) → SundaysAreShut w → (y : ℕ) → 1996 ≤ y →
    (w (last_sunday y 3) ≡ false) × (w (last_sunday y 10) ≡ false)
switches_shut w shut y h =
    let s = switch_days y h in
    (shut (last_sunday y 3) s.0, shut (last_sunday y 10) s.1)

pub werktag_shown : OpenDayShowsEachClock
werktag_shown w shut i c h u o e =
    let q = absent_when i c h u e in
    let s = switches_shut w shut (date_of i).year (index_date i h).0.from in
    grind (arith, common_steps)

later_never : (m : Moment) (t : ℕ) → instant_later m t ≡ Err Absent → ⊥
unfolding instant_later
later_never m t e = grind (arith, common_steps)

pub contrl_never : ContrlIsNeverAbsent
unfolding contrl_due_at
contrl_never m a e = grind (arith, common_steps, later_never)

pub change_never : ContrlChangeIsNeverAbsent
unfolding contrl_due_at_change
change_never m a d e = grind (arith, common_steps, later_never)

pub hours_never : AddedHoursAreNeverAbsent
hours_never m n e = later_never m (n * 3600) e

noon_proper : ProperClock noon
noon_proper = record { second_lt = omega arith; nanos_le = omega arith }

noon_shown : (d : ℕ) → d ≤ last → berlin_at d noon ≡ None → ⊥
noon_shown d h e = not_absent d noon None h noon_proper (λ a b. omega arith) (sym e) refl

pub strom_never : AperakStromIsNeverAbsent
unfolding aperak_strom_due_at
strom_never m e = grind (arith, common_steps, later_never, noon_shown, day_after_is)

pub end_never : EndOfWerktagIsNeverAbsent
unfolding end_of_werktag_after
end_never w m n e = grind (arith, common_steps)

pub end_of_werktag_never : EndOfWerktagShapeIsNeverAbsent
unfolding due_at_of
end_of_werktag_never w n m e = end_never w m n e

pub same_day_never : SameDayIsNeverAbsent
unfolding due_at_of
same_day_never w m e = cc

pub nth_never : NthWerktagIsNeverAbsent
unfolding nth_werktag_at
nth_never w shut m p n c k e =
    grind (arith, common_steps, day_le m p, reached w, λ (i : ℕ). werktag_shown w shut i c)

pub gas_never : AperakGasIsNeverAbsent
unfolding aperak_gas_due_at
gas_never w shut m p pid e = grind (arith, common_steps, end_never w m 3, nth_never w shut m p 1 noon noon_proper)

pub werktag_at_never : WerktagAtIsNeverAbsent
unfolding due_at_of
werktag_at_never w shut m p n c k e = nth_never w shut m p n c k e

pub same_day_at_absent : SameDayAtIsAbsentIfUnshown
unfolding due_at_of same_day_at
same_day_at_absent w shut m p c k = (
  λ e. grind (arith, common_steps, nth_never w shut m p 1 c k),
  λ q. rw q,
)
