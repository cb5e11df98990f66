-- What the proofs of this crate's functions cite, with premises in the form in which they stand there.
--   is_before         `werktage_before_year`: entry k of the table, and that it is no large number
--   parted, is_year   `year_of_werktag`: of the entries behind the first those below n come first, and k is how many
--                     they are
-- Source: document 02, F-3.
-- Assumes nothing.
use Prim.Native.Nat.{ℕ, suc, ◌+◌, ◌-◌, ◌≤◌, ◌<◌}
use mathlib.Core.Bool.{true, false}
use mathlib.Core.Path.{◌≡◌, ap}
use native.Mathlib.Omega.{arith}
use native.Mathlib.Decide.{dec_le}
use lib.Dec.{ltb}
use lib.ListN.{get_or, drop}
use borrow.Author.Tests.{ltb-true, ltb-false, lt-ltb}
use Rattle.std.specs.List.Sorted.{IsPartitionedBy, IsPartitionPoint}
use Rattle.std.proofs.lemmas.List.{get_or_default}
use Rattle.std.proofs.lemmas.Grind.{get_or_after_one}
use Rattle.zaehlung.specs.Walk.{last, count}
use Rattle.zaehlung.proofs.Count.{count_le, count_mono}
use Rattle.zaehlung.proofs.BlockLaws.{start_mono}
use Rattle.datum.specs.Calendar.{year_len, year_start}
use Rattle.datum.proofs.Years.{start_all}
use Rattle.werktag.specs.declared.HolidayCalendar.{HolidayCalendar}
use Rattle.werktag.specs.declared.HolidayCalendar.TheVariants.{BdewMaKo}
use Rattle.werktag.specs.Werktag.{is_werktag}
use Rattle.jahresindex.specs.Werktage.{werktage}
use Rattle.jahresindex.specs.Entries.{entries}
use Rattle.jahresindex.proofs.Table.{entry_is, all_is}

pub is_before :
    (cal : HolidayCalendar) (k : ℕ) → k ≤ 904 →
    (get_or entries k 0 ≡ count (is_werktag cal) (year_start k)) × (get_or entries k 0 ≤ 330180)
is_before cal k h =
    let e = entry_is cal k h in
    (e, omega (arith, count_le (is_werktag cal) (year_start k), start_mono year_len k 904 h, start_all))

-- the entries rise, so those below n are the first ones, from the second entry on too
rises : (i j d : ℕ) → i ≤ j → j ≤ 904 → get_or entries i d ≤ get_or entries j d
rises i j d h g =
    let w = is_werktag BdewMaKo in
    let e = get_or_default entries i d 0 (omega arith) in
    let f = get_or_default entries j d 0 (omega arith) in
    let m = count_mono w (year_start i) (year_start j) (start_mono year_len i j h) in
    omega (arith, entry_is BdewMaKo i (omega arith), entry_is BdewMaKo j g)

pub parted : (n : ℕ) → IsPartitionedBy (λ y. ltb y n) (drop 1 entries)
parted n i j d h l t =
    let e = get_or_after_one entries i d in
    let f = get_or_after_one entries j d in
    let r = rises (1 + i) (1 + j) d (omega arith) (omega arith) in
    lt-ltb (get_or (drop 1 entries) i d) n (omega (arith, ltb-true (get_or (drop 1 entries) j d) n t))

-- k is how many of those they are: the first entry is 0, the last all Werktage
module _
    (cal : HolidayCalendar) (n k : ℕ) (m : 1 ≤ n) (g : n ≤ count (is_werktag cal) (suc last)) (b : k ≤ 904)
    (p : IsPartitionPoint (λ y. ltb y n ≡ true) (λ y. ltb y n ≡ false) (drop 1 entries) k) where
  pub not_all : k ≤ 903
  not_all =
      elim (dec_le k 903) [
        | yes y ↦ y
        | no y ↦ absurd (omega (arith, all_is cal, ltb-true werktage n (p.0 903 0 (omega arith) (omega arith))))
      ]

  pub is_entry : get_or entries k 0 ≡ count (is_werktag cal) (year_start k)
  is_entry = entry_is cal k (omega (arith, not_all))

  pub fewer : get_or entries k 0 < n
  fewer =
      elim (dec_le 1 k) [
        | yes y ↦
            let e = get_or_after_one entries (k - 1) 0 in
            let h : 1 + (k - 1) ≡ k = omega arith in
            let f = ap (λ (i : ℕ). get_or entries i 0) h in
            omega (arith, ltb-true (get_or (drop 1 entries) (k - 1) 0) n (p.0 (k - 1) 0 (omega arith) (omega arith)))
        | no y ↦
            let h : k ≡ 0 = omega arith in
            let e = ap (λ (i : ℕ). get_or entries i 0) h in
            omega arith
      ]

  pub up_to : n ≤ count (is_werktag cal) (year_start (k + 1))
  up_to =
      let e = get_or_after_one entries k 0 in
      let h : 1 + k ≡ k + 1 = omega arith in
      let f = ap (λ (i : ℕ). get_or entries i 0) h in
      let i = entry_is cal (k + 1) (omega (arith, not_all)) in
      omega (arith, ltb-false (get_or (drop 1 entries) k 0) n (p.1 k 0 (omega arith) (omega (arith, not_all))))

  pub is_year :
      (k ≤ 903) × (get_or entries k 0 ≡ count (is_werktag cal) (year_start k)) × (get_or entries k 0 < n)
      × (n ≤ count (is_werktag cal) (year_start (k + 1)))
  is_year = (not_all, is_entry, fewer, up_to)
