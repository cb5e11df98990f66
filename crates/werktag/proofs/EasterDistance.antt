-- The feasts that move with Easter, as built dates and by their distance from it; specs/FeastDates.antt has the
-- statements.
--   same_date_lem     two dates of the range are the same exactly if their indexes are
--   Reaches e o       o days from the day with index e lies a day of the calendar
--   easter_days       this is so of Easter Sunday and any offset of at most 60 days, before or after it
--   built_distance    a date is the one built by such an offset exactly if its distance is the offset, as tests
--   built_by          and as equations
--   tests_same        so the tests by any list of such offsets are the same
--   built_exactly     it is one of the six built dates exactly if its distance is one of the six offsets
--   built_place       it is the built date of a place exactly if its distance is the offset of that place
--   reason_either_way the reason is the same either way
--   reason_by_built_lem, reason_by_distance_lem  and it is the day's reason
-- Assumes nothing.
use Prim.Native.Nat.{ℕ, suc, ◌+◌, ◌-◌, ◌≤◌, ◌<◌}
use mathlib.Core.Bool.{Bool, true, false}
use mathlib.Core.List.{List, [], ◌∷◌, map}
use mathlib.Core.Logic.{◌↔◌}
use mathlib.Core.Path.{◌≡◌, refl, sym, ap, ◌∙◌}
use native.Mathlib.Omega.{arith}
use lib.Dec.{eqb, leb}
use lib.IntN.{ℤ, pos, negsuc, nat_abs, ◌+ℤ◌}
use lib.ListN.{get_or}
use borrow.Author.Tests.{eqb-true, eq-eqb, leb-true}
use Rattle.zaehlung.specs.Walk.{last}
use Rattle.zaehlung.specs.Lists.{any}
use Rattle.zaehlung.proofs.Tests.{and_left, and_right}
use Rattle.zaehlung.proofs.BlockLaws.{start_suc, start_mono}
use Rattle.zaehlung.proofs.Search.{any_map}
use Rattle.datum.specs.declared.Date.{Date}
use Rattle.datum.specs.Calendar.{year_len, is_date, days_before, date_of}
use Rattle.datum.proofs.Years.{year_len_bounds, start_all}
use Rattle.datum.proofs.Dates.{Valid, valid_is, all_le, date_index, index_date}
use Rattle.datum.proofs.Signed.{sub_pos}
use Rattle.werktag.specs.declared.HolidayCalendar.TheVariants.{BdewMaKo}
use Rattle.werktag.specs.Easter.{easter_sunday, easter_index}
use Rattle.werktag.specs.Werktag.{eq_z, easter_offsets}
use Rattle.werktag.specs.Reason.{place_from, feast_tests, day_tests, reason}
use Rattle.werktag.specs.Built.{same_date, days_from, built_dates, distance}
use Rattle.werktag.specs.Built.{reason_with, reason_by_built, reason_by_distance}
use Rattle.werktag.specs.FeastDates.{offset, built_date}
use Rattle.werktag.proofs.Signed.{eq_z_true, eq_eq_z, from_distance}
use Rattle.werktag.proofs.Place.{map_at}
use Rattle.werktag.proofs.Easter.{easter_between}
use Rattle.werktag.proofs.Reasons.{reason_is}

self : (d : Date) → same_date d d ≡ true
self d = rw (eq-eqb d.year d.year refl, eq-eqb d.month d.month refl) (eq-eqb d.day d.day refl)

abbrev on : ℕ → ℕ → ℕ → Date
on y m n = record { year = y; month = m; day = n }

same_date_true : (d e : Date) → same_date d e ≡ true → d ≡ e
same_date_true d e t =
    let r = and_right (eqb d.year e.year) _ t in
    fields d.year d.month d.day (eqb-true _ _ (and_left _ _ t)) (eqb-true _ _ (and_left _ _ r))
    (eqb-true _ _ (and_right (eqb d.month e.month) _ r))
  where
    fields : (y m n : ℕ) → y ≡ e.year → m ≡ e.month → n ≡ e.day → on y m n ≡ e
    fields y m n p q r = rw (p, q, r)

both_ways : (a b : Bool) → (a ≡ true → b ≡ true) → (b ≡ true → a ≡ true) → a ≡ b
both_ways true b f g = sym (f refl)
both_ways false true f g = g refl
both_ways false false f g = refl

module _ (d e : Date) (v : Valid d) (w : Valid e) where
  same_index : days_before d ≡ days_before e → d ≡ e
  same_index q = sym (date_index d v) ∙ ap date_of q ∙ date_index e w

  pub same_date_lem : same_date d e ≡ eqb (days_before d) (days_before e)
  same_date_lem =
      both_ways (same_date d e) (eqb (days_before d) (days_before e))
      (λ t. eq-eqb (days_before d) (days_before e) (ap days_before (same_date_true d e t)))
      (λ t. rw (← same_index (eqb-true (days_before d) (days_before e) t)) (self d))

pub record Reaches (e : ℕ) (o : ℤ) : Type 0 where
  pub index : ℕ
  pub sum : pos e +ℤ o ≡ pos index
  pub kept : index ≤ last

reaches : (e : ℕ) (o : ℤ) → 60 ≤ e → e + 60 ≤ last → nat_abs o ≤ 60 → Reaches e o
reaches e (pos a) g h n = record { index = e + a; sum = refl; kept = omega arith }
reaches e (negsuc a) g h n =
    record { index = e - suc a; sum = sub_pos e (suc a) (omega arith); kept = omega arith }

pub easter_days : (y : ℕ) (o : ℤ) → 1996 ≤ y → y ≤ 2899 → nat_abs o ≤ 60 → Reaches (easter_index y) o
easter_days y o a b n =
    let k : ℕ = y - 1996 in
    let e = easter_between y a b in
    let f = start_mono year_len (suc k) 904 (omega arith) in
    reaches (easter_index y) o (omega arith)
    (omega (arith, start_suc year_len k, year_len_bounds k, f, start_all)) n

-- d is any date of the calendar, and y its own year
module _ (d : Date) (h : is_date d ≡ true) where
  valid : Valid d
  valid = valid_is d h

  abbrev y : ℕ
  y = d.year

  -- x is the date at the distance o
  exactly : (x : Date) (o : ℤ) → same_date d x ≡ eq_z (distance d) o → (d ≡ x) ↔ (distance d ≡ o)
  exactly x o q = (
    λ e. eq_z_true (distance d) o (sym q ∙ rw (← e) (self d)),
    λ e. same_date_true d x (q ∙ eq_eq_z (distance d) o e),
  )

  built_distance : (o : ℤ) → nat_abs o ≤ 60 → same_date d (days_from (easter_sunday y) o) ≡ eq_z (distance d) o
  unfolding easter_index distance
  built_distance o n =
      let r = easter_days y o valid.from valid.to n in
      let x = index_date r.index r.kept in
      let i : ℕ = days_before d in
      let e : ℕ = easter_index y in
      ap (λ (z : ℤ). same_date d (date_of (nat_abs z))) r.sum
      ∙ same_date_lem d (date_of r.index) valid x.0
      ∙ ap (eqb i) x.1
      ∙ ap (eq_z (pos i)) (sym r.sum)
      ∙ sym (from_distance (pos i) (pos e) o)

  pub built_by : (o : ℤ) → nat_abs o ≤ 60 → (d ≡ days_from (easter_sunday y) o) ↔ (distance d ≡ o)
  built_by o n = exactly (days_from (easter_sunday y) o) o (built_distance o n)

  -- all_le 60: none of the offsets is over 60 days
  tests_same :
      (os : List ℤ) → all_le 60 (map nat_abs os) ≡ true →
      map (same_date d) (map (days_from (easter_sunday y)) os) ≡ map (eq_z (distance d)) os
  unfolding all_le
  tests_same [] t = refl
  tests_same (o ∷ os) t =
      let n = leb-true (nat_abs o) 60 (and_left _ _ t) in
      let r = tests_same os (and_right (leb (nat_abs o) 60) _ t) in
      rw (built_distance o n, r)

  six_same : map (same_date d) (built_dates y) ≡ map (eq_z (distance d)) easter_offsets
  unfolding all_le built_dates
  six_same = tests_same easter_offsets refl

  pub built_exactly : any (same_date d) (built_dates y) ≡ any (eq_z (distance d)) easter_offsets
  built_exactly =
      sym (any_map (λ b. b) (same_date d) (built_dates y))
      ∙ ap (any (λ b. b)) six_same
      ∙ any_map (λ b. b) (eq_z (distance d)) easter_offsets

  built_at : (k : ℕ) → k < 6 → same_date d (built_date y k) ≡ eq_z (distance d) (offset k)
  unfolding built_dates
  built_at k l =
      sym (map_at (same_date d) (built_dates y) k (easter_sunday y) false l)
      ∙ ap (λ (bs : List Bool). get_or bs k false) six_same
      ∙ map_at (eq_z (distance d)) easter_offsets k (pos 0) false l

  pub built_place : (k : ℕ) → k < 6 → (d ≡ built_date y k) ↔ (distance d ≡ offset k)
  built_place k l = exactly (built_date y k) (offset k) (built_at k l)

  pub reason_either_way : reason_by_built d ≡ reason_by_distance d
  unfolding reason_by_built reason_by_distance
  reason_either_way = ap (reason_with d) six_same

  pub reason_by_distance_lem : reason_by_distance d ≡ reason BdewMaKo (days_before d)
  unfolding reason_by_distance distance
  reason_by_distance_lem =
      let i : ℕ = days_before d in
      let e : ℕ = easter_index y in
      let f : map (eq_z (distance d)) easter_offsets ≡ feast_tests i y = simp (from_distance (pos i) (pos e)) in
      ap (reason_with d) f
      ∙ ap (λ (x : Date). place_from 1 (day_tests i x)) (sym (date_index d valid))
      ∙ sym (reason_is i)

  pub reason_by_built_lem : reason_by_built d ≡ reason BdewMaKo (days_before d)
  reason_by_built_lem = reason_either_way ∙ reason_by_distance_lem
