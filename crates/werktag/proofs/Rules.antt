-- What the proofs of this crate's functions cite: a lemma for each return, with premises in the form in which they
-- stand there.
-- Assumes nothing.
use Prim.Native.Nat.{ℕ, zero, suc, ◌+◌, ◌-◌, ◌/◌, ◌%◌, ◌^◌, ◌≤◌, ◌<◌}
use mathlib.Core.Bool.{Bool, true, false, not}
use mathlib.Core.List.{List, ◌∷◌, map}
use mathlib.Core.Path.{◌≡◌, refl, sym, ap, subst, ◌∙◌}
use native.Mathlib.Omega.{arith}
use native.Mathlib.Decide.{dec_lt}
use lib.Dec.{T, eqb}
use lib.IntN.{ℤ, pos, negsuc, ◌-ℤ◌}
use borrow.Author.Tests.{eqb-true, eq-eqb, ne_eqb, le-leb, lt-leb}
use mir.Syntax.{w64}
use mir.Val.{SFits}
use mir.Facts.{to_z-of_z}
use Rattle.zaehlung.specs.Walk.{last}
use Rattle.zaehlung.specs.Blocks.{start}
use Rattle.datum.specs.declared.Date.{Date}
use Rattle.datum.specs.Calendar.{is_leap, days_in_month, month_start, date_of, days_before, weekday}
use Rattle.zaehlung.specs.Lists.{any}
use Rattle.zaehlung.proofs.BlockLaws.{start_suc, start_mono}
use Rattle.zaehlung.proofs.Every.{run, run_at}
use Rattle.zaehlung.proofs.Tests.{agree, agree_is}
use Rattle.datum.proofs.Dates.{Valid, len_le, index_date}
use Rattle.datum.proofs.TagRules.{tag_date}
use Rattle.datum.proofs.Signed.{back, back_pos, sub_pos, sub_neg, sub_fits}
use Rattle.werktag.specs.declared.HolidayCalendar.{HolidayCalendar}
use Rattle.werktag.specs.declared.HolidayCalendar.TheVariants.{BdewMaKo}
use Rattle.werktag.specs.Easter.{easter_index, easter_for}
use Rattle.werktag.specs.Werktag.{at_feast, eq_z, is_fixed, is_buss_und_bettag, easter_offsets, is_easter_feast}
use Rattle.werktag.specs.Werktag.{is_listed, is_werktag}
use Rattle.werktag.specs.Reason.{place_from, weekend_tests, fixed_tests, fixed_place, fixed_bits, feast_tests}
use Rattle.werktag.specs.Reason.{feast_place, holiday_place, reason}
use Rattle.werktag.proofs.Place.{place_left, place_right, place_zero}
use Rattle.werktag.proofs.Easter.{easter_between}
use Rattle.werktag.proofs.Reasons.{reason_is, weekend_shut, weekday_open, on_saturday, on_sunday}
use Rattle.werktag.proofs.Signed.{from_distance}

-- has_fixed_day: a bit of the month is the list's word on the day, for every month and day
abbrev bit_of : ℕ → ℕ → Bool
bit_of m d = eqb (fixed_bits m / 2 ^ d % 2) 1

bits_agree : ℕ → ℕ → Bool
bits_agree m d = agree (bit_of m d) (is_fixed m d)

all_agree : run (λ m. run (bits_agree m) 32 0) 13 0 ≡ true
unfolding run bits_agree agree fixed_bits is_fixed any
all_agree = refl

pub by_bit : (m d x : ℕ) → m ≤ 12 → d ≤ 31 → x ≡ fixed_bits m → eqb (x / 2 ^ d % 2) 1 ≡ is_fixed m d
unfolding bits_agree
by_bit m d x a b e =
    let t = run_at (λ m. run (bits_agree m) 32 0) 13 0 all_agree m (omega arith) (omega arith) in
    rw e (agree_is (bit_of m d) (is_fixed m d) (run_at (bits_agree m) 32 0 t d (omega arith) (omega arith)))

-- feast: its distance is computed in 64 bits
module _ (i e : ℕ) (a b : ℤ) (p : a ≡ pos i) (q : b ≡ pos e) (h : i ≤ last + 3) (g : e ≤ last + 3) where
  pub distance_fits : SFits w64 (back a -ℤ back b)
  distance_fits =
      rw (p, q, back_pos i (omega arith), back_pos e (omega arith)) (sub_fits i e (omega arith) (omega arith))

  pub distance_is : back (back a -ℤ back b) ≡ pos i -ℤ pos e
  distance_is = to_z-of_z distance_fits ∙ rw (p, q, back_pos i (omega arith), back_pos e (omega arith))

-- feast: s is the Easter that the month of the day i needs
pub feast_by_parts :
    (n i j s : ℕ) → i ≡ n → j ≡ i → s ≡ easter_for (date_of i).year (date_of i).month →
    feast_place j s ≡ feast_place n (easter_for (date_of n).year (date_of n).month)
feast_by_parts n i j s at e v = rw (e, v, at)

-- bdew_mako_holiday: the feasts by their distance from Easter, and where there is none
abbrev feasts : ℤ → List Bool
feasts z = map (eq_z z) easter_offsets

by_distance : (i y : ℕ) → feasts (pos i -ℤ pos (easter_index y)) ≡ feast_tests i y
by_distance i y = simp (from_distance (pos i) (pos (easter_index y)))

module _ (n i y : ℕ) where
  abbrev e : ℕ
  e = easter_index y

  -- z is the distance
  far : (z : ℤ) → pos i -ℤ pos e ≡ z → place_from n (feasts z) ≡ 0 → 0 ≡ place_from n (feast_tests i y)
  far z q none = sym none ∙ ap (λ (x : ℤ). place_from n (feasts x)) (sym q) ∙ ap (place_from n) (by_distance i y)

  no_feast_before : i + 2 < e → 0 ≡ place_from n (feast_tests i y)
  unfolding place_from
  no_feast_before h =
      far (negsuc (e - suc i)) (sub_neg i e (omega arith)) (rw (ne_eqb (e - suc i) 1 (λ q. omega arith)))

  no_feast_after : e + 60 < i → 0 ≡ place_from n (feast_tests i y)
  unfolding place_from
  no_feast_after h =
      far (pos (i - e)) (sub_pos i e (omega arith))
      (rw (
        ne_eqb (i - e) 1 (λ q. omega arith),
        ne_eqb (i - e) 39 (λ q. omega arith),
        ne_eqb (i - e) 49 (λ q. omega arith),
        ne_eqb (i - e) 50 (λ q. omega arith),
        ne_eqb (i - e) 60 (λ q. omega arith),
      ))

-- where the tables hold a day, they have a place for it
place_of_fixed : (m d : ℕ) → eqb (place_from 3 (fixed_tests m d)) 0 ≡ not (is_fixed m d)
unfolding is_fixed any
place_of_fixed m d = place_zero 3 (fixed_tests m d) (omega arith)

has_place : (m d : ℕ) → is_fixed m d ≡ true → place_from 3 (fixed_tests m d) ≡ 0 → ⊥
has_place m d t e =
    let c : true ≡ false = sym (eq-eqb (place_from 3 (fixed_tests m d)) 0 e) ∙ place_of_fixed m d ∙ ap not t in
    subst T c tt

no_place : (m d : ℕ) → is_fixed m d ≡ false → place_from 3 (fixed_tests m d) ≡ 0
no_place m d f = eqb-true (place_from 3 (fixed_tests m d)) 0 (place_of_fixed m d ∙ ap not f)

-- the days of the year before March and before July
starts : (l : Bool) → (month_start l 3 ≤ 60) × (181 ≤ month_start l 7)
unfolding start days_in_month
starts true = (omega arith, omega arith)
starts false = (omega arith, omega arith)

-- a day lies at no offset from one so far past the calendar
no_feast_far : (n i : ℕ) → i ≤ last → place_from n (feasts (pos i -ℤ pos (last + 3))) ≡ 0
unfolding place_from
no_feast_far n i h =
    let k = last + 3 - suc i in
    ap (λ (x : ℤ). place_from n (feasts x)) (sub_neg i (last + 3) (omega arith))
    ∙ rw (ne_eqb k 1 (λ q. omega arith))

-- d is the date of the day j, and i that day
module _ (j i : ℕ) (d : Date) (k : (d ≡ date_of j) × (j ≤ last)) (e : j ≡ i) where
  valid : Valid d
  valid = (tag_date j d k.0 k.1).0

  pub year_from : 1996 ≤ d.year
  year_from = valid.from

  pub year_to : d.year ≤ 2899
  year_to = valid.to

  pub month_to : d.month ≤ 12
  month_to = valid.month_to

  pub day_to : d.day ≤ 31
  day_to = omega (arith, valid.day_to, len_le (is_leap d.year) d.month)

  -- n is the day of the test, and i its tag
  module _ (n : ℕ) (at : i ≡ n) where
    pub here : d ≡ date_of n
    here = k.0 ∙ ap date_of (e ∙ at)

    pub by_month_bit :
        (x : ℕ) → x ≡ fixed_bits d.month → eqb (x / 2 ^ d.day % 2) 1 ≡ is_fixed (date_of n).month (date_of n).day
    by_month_bit x q =
        by_bit d.month d.day x month_to day_to q ∙ ap (λ (y : Date). is_fixed y.month y.day) here

pub ruleset tag_rules = (year_from, year_to, month_to, day_to)

pub ruleset fixed_rules = (month_to, day_to, by_month_bit)

-- the day with index n, and d its date
module _ (n : ℕ) where
  abbrev d : Date
  d = date_of n

  module _ (h : n ≤ last) where
    dated : Valid d
    dated = (index_date n h).0

    index : days_before d ≡ n
    index = (index_date n h).1

    abbrev l : Bool
    l = is_leap d.year

    before_march : (m : ℕ) → d.month < 3 → 0 ≡ place_from m (feast_tests n d.year)
    before_march m g =
        let s = start_suc (days_in_month l) d.month in
        let t = start_mono (days_in_month l) (suc d.month) 3 (omega arith) in
        no_feast_before m n d.year
        (omega (arith, s, t, index, dated.day_to, (starts l).0, (easter_between d.year dated.from dated.to).0))

    after_june : (m : ℕ) → 6 < d.month → 0 ≡ place_from m (feast_tests n d.year)
    after_june m g =
        let t = start_mono (days_in_month l) 7 d.month (omega arith) in
        no_feast_after m n d.year
        (omega (arith, t, index, (starts l).1, (easter_between d.year dated.from dated.to).1))

    -- the feasts by the distance from the Easter that the month needs
    by_known :
        (m : ℕ) →
        place_from m (feasts (pos n -ℤ pos (easter_for d.year d.month))) ≡ place_from m (feast_tests n d.year)
    unfolding easter_for
    by_known m =
        elim (dec_lt d.month 3) [
          | yes g ↦ rw (lt-leb 3 d.month g) (no_feast_far m n h ∙ before_march m g)
          | no g ↦ elim (dec_lt 6 d.month) [
            | yes o ↦
                rw (le-leb 3 d.month (omega arith), lt-leb d.month 6 o) (no_feast_far m n h ∙ after_june m o)
            | no o ↦
                rw (le-leb 3 d.month (omega arith), le-leb d.month 6 (omega arith))
                (ap (place_from m) (by_distance n d.year))
          ]
        ]

  -- a and b are what the tests for a fixed day and for Buß- und Bettag returned
  module _ (a : Bool) (u : a ≡ is_fixed d.month d.day) where
    pub by_table : (r : ℕ) → a ≡ true → r ≡ fixed_place d.month d.day → r ≡ holiday_place n
    unfolding fixed_place holiday_place
    by_table r f p =
        p ∙ sym (place_left 3 (fixed_tests d.month d.day) _ (has_place d.month d.day (sym u ∙ f)))

    module _ (b : Bool) (x : b ≡ is_buss_und_bettag d.month d.day (weekday n)) (f : a ≡ false) where
      rest : (y : Bool) → b ≡ y → place_from 16 (y ∷ feast_tests n d.year) ≡ holiday_place n
      unfolding holiday_place
      rest y z =
          rw (← x, z)
          (sym (place_right 3 (fixed_tests d.month d.day) (y ∷ feast_tests n d.year) (omega arith)
          (no_place d.month d.day (sym u ∙ f))))

      pub at_bettag : b ≡ true → 16 ≡ holiday_place n
      unfolding place_from
      at_bettag z = rest true z

      pub at_feast_day :
          (r : ℕ) → b ≡ false → r ≡ feast_place n (easter_for d.year d.month) → n ≤ last → r ≡ holiday_place n
      unfolding feast_place place_from
      at_feast_day r z p h = p ∙ by_known h 17 ∙ rest false z

pub ruleset holiday_rules = (by_table, at_bettag, at_feast_day)

-- reason, for the day with index i, whose weekday is w
pub saturday : (cal : HolidayCalendar) (i w : ℕ) → w ≡ weekday i → w ≡ 5 → 1 ≡ reason cal i
saturday BdewMaKo i w e h = sym ((on_saturday i).1 (sym e ∙ h))

pub sunday : (cal : HolidayCalendar) (i w : ℕ) → w ≡ weekday i → 5 < w → 2 ≡ reason cal i
sunday BdewMaKo i w e h = sym ((on_sunday i).1 (omega (arith, e)))

no_weekend : (i : ℕ) → weekday i < 5 → place_from 1 (weekend_tests i) ≡ 0
unfolding place_from
no_weekend i h = rw (ne_eqb (weekday i) 5 (λ q. omega arith), ne_eqb (weekday i) 6 (λ q. omega arith))

pub on_weekday_lem : (cal : HolidayCalendar) (i r : ℕ) → weekday i < 5 → r ≡ holiday_place i → r ≡ reason cal i
unfolding holiday_place
on_weekday_lem BdewMaKo i r h p =
    p ∙ sym (place_right 1 (weekend_tests i) _ (omega arith) (no_weekend i h)) ∙ sym (reason_is i)

-- a weekday that is no Saturday and none after it
pub before_saturday : (w : ℕ) → (w ≡ 5 → ⊥) → w ≤ 5 → w < 5
before_saturday w n h = omega (arith, n)

pub ruleset reason_rules = (saturday, sunday, before_saturday)

-- is_feast: the days from Karfreitag on, as distances from Easter Sunday
dist : ℕ → ℤ
dist zero = negsuc 1
dist (suc zero) = negsuc 0
dist (suc (suc n)) = pos n

dist_is : (i e : ℕ) → e ≤ i + 2 → pos i -ℤ pos e ≡ dist (i + 2 - e)
unfolding dist
dist_is i e h =
    elim (dec_lt i e) [
      | no l ↦
          let k : i + 2 - e ≡ suc (suc (i - e)) = omega arith in
          rw k (sub_pos i e (omega arith))
      | yes l ↦ elim (dec_lt (i + 1) e) [
        | yes g ↦
            let k : i + 2 - e ≡ 0 = omega arith in
            let z : e - suc i ≡ 1 = omega arith in
            rw k (sub_neg i e l ∙ ap negsuc z)
        | no g ↦
            let k : i + 2 - e ≡ 1 = omega arith in
            let z : e - suc i ≡ 0 = omega arith in
            rw k (sub_neg i e l ∙ ap negsuc z)
      ]
    ]

abbrev feast_bit : ℕ → Bool
feast_bit k = eqb (4618443616891699209 / 2 ^ k % 2) 1

feast_agree : ℕ → Bool
feast_agree k = agree (feast_bit k) (any (eq_z (dist k)) easter_offsets)

all_feasts : run feast_agree 63 0 ≡ true
unfolding run feast_agree agree any dist
all_feasts = refl

module _ (i e : ℕ) where
  pub feast_before : i + 2 < e → false ≡ at_feast i e
  unfolding at_feast any
  feast_before h = rw (sub_neg i e (omega arith), ne_eqb (e - suc i) 1 (λ q. omega arith))

  pub feast_after : e ≤ i + 2 → 62 < i + 2 - e → false ≡ at_feast i e
  unfolding at_feast any
  feast_after h g =
      rw (
        sub_pos i e (omega arith),
        ne_eqb (i - e) 1 (λ q. omega arith),
        ne_eqb (i - e) 39 (λ q. omega arith),
        ne_eqb (i - e) 49 (λ q. omega arith),
        ne_eqb (i - e) 50 (λ q. omega arith),
        ne_eqb (i - e) 60 (λ q. omega arith),
      )

  pub feast_by_bit :
      e ≤ i + 2 → i + 2 - e ≤ 62 → feast_bit (i + 2 - e) ≡ at_feast i e
  unfolding at_feast feast_agree
  feast_by_bit h g =
      let k = i + 2 - e in
      let t = run_at feast_agree 63 0 all_feasts k (omega arith) (omega arith) in
      agree_is (feast_bit k) (any (eq_z (dist k)) easter_offsets) t
      ∙ ap (λ (z : ℤ). any (eq_z z) easter_offsets) (sym (dist_is i e h))

pub ruleset is_feast_rules = (feast_before, feast_after, feast_by_bit)

-- is_bdew_mako_holiday
not_same : (a b : Bool) → not a ≡ not b → a ≡ b
not_same true true e = refl
not_same true false e = sym e
not_same false true e = sym e
not_same false false e = refl

feast_known : (n : ℕ) → n ≤ last → at_feast n (easter_for (d n).year (d n).month) ≡ is_easter_feast n (d n).year
unfolding at_feast is_easter_feast any
feast_known n h =
    let y = feasts (pos n -ℤ pos (easter_for (d n).year (d n).month)) in
    not_same _ _
    (sym (place_zero 17 y (omega arith)) ∙ ap (λ (x : ℕ). eqb x 0) (by_known n h 17)
    ∙ place_zero 17 (feast_tests n (d n).year) (omega arith))

module _ (n : ℕ) (a : Bool) (u : a ≡ is_fixed (d n).month (d n).day) where
  pub listed_fixed : a ≡ true → true ≡ is_listed n (d n)
  listed_fixed f = rw (← u, f)

  module _ (b : Bool) (x : b ≡ is_buss_und_bettag (d n).month (d n).day (weekday n)) (f : a ≡ false) where
    pub listed_bettag : b ≡ true → true ≡ is_listed n (d n)
    listed_bettag z = rw (← u, f, ← x, z)

    pub listed_feast :
        (c : Bool) → b ≡ false → c ≡ at_feast n (easter_for (d n).year (d n).month) → n ≤ last → c ≡ is_listed n (d n)
    listed_feast c z p h = rw (← u, f, ← x, z) (p ∙ feast_known n h)

pub ruleset listed_rules = (listed_fixed, listed_bettag, listed_feast)

-- is_open_weekday
pub by_list : (cal : HolidayCalendar) (i : ℕ) (r : Bool) → weekday i < 5 → r ≡ is_listed i (date_of i) →
    not r ≡ is_werktag cal i
by_list BdewMaKo i r l p = ap not p ∙ sym (weekday_open i l)

-- is_werktag
pub on_weekend : (cal : HolidayCalendar) (i w : ℕ) → w ≡ weekday i → 5 ≤ w → false ≡ is_werktag cal i
on_weekend cal i w e h = sym (weekend_shut cal i (omega (arith, e)))
