-- What the proofs of this crate's functions cite: a lemma for each return and each turn of the loop, with premises in
-- the form in which they stand there.
--   year_rules      `year_numbers`: s is what `year_start` returned, i the index of Easter Sunday, f the weekday of s
--   fields_usual    the same: the fields that it fills are usual
--   weekday_rules   `weekday_or_none`
--   may_rules       `himmelfahrt`: v is the year, j its fields
--   listed_is       `weekday_holidays`
--   known           `HolidayYear::new`
--   number_rules    `number_before`: m is the number so far, b what place i of the list adds
--   count_rules     `HolidayYear::werktage`: v is the year, j its fields, a and b are weekdays, m the holidays among
--                   them
-- Assumes nothing.
use Prim.Native.Nat.{ℕ, ◌+◌, ◌-◌, ◌%◌, ◌≤◌, ◌<◌}
use mathlib.Core.Bool.{Bool, true, false, ◌&&◌}
use mathlib.Core.List.{List, [], ◌∷◌, map}
use mathlib.Core.Path.{◌≡◌, refl, sym, ap, ap₂, ◌∙◌, subst}
use native.Mathlib.Omega.{arith}
use lib.Dec.{eqb, ltb}
use lib.ListN.{length, get_or, drop, drop_of_length-le}
use lib.Seq.{drop-cons}
use native.Mathlib.Numerals.{add-one}
use Rattle.std.specs.Int.{from_bool}
use mir.Syntax.{w32}
use mir.Val.{Fits}
use borrow.Author.Tests.{eq-eqb, ne_eqb, le-leb, lt-leb, le-ltb}
use Rattle.zaehlung.specs.Walk.{bit, among}
use Rattle.zaehlung.specs.Lists.{each, below}
use Rattle.zaehlung.proofs.Tests.{and_yes, and_no}
use Rattle.zaehlung.proofs.Every.{split}
use Rattle.zaehlung.proofs.Count.{bit_small, count_le}
use Rattle.zaehlung.proofs.Striking.{count_strikes}
use Rattle.datum.specs.Calendar.{is_leap, year_len, year_start, weekday}
use Rattle.datum.proofs.Years.{year_len_bounds}
use Rattle.werktag.specs.declared.HolidayCalendar.{HolidayCalendar}
use Rattle.werktag.specs.declared.HolidayCalendar.TheVariants.{BdewMaKo}
use Rattle.werktag.specs.Easter.{easter_index}
use Rattle.werktag.specs.Werktag.{is_werktag}
use Rattle.werktag.proofs.Easter.{easter_is}
use Rattle.jahre.specs.YearNumbers.{YearNumbers}
use Rattle.jahre.specs.declared.Year.TheInside.{Inside as Fields}
use Rattle.jahre.specs.declared.HolidayYear.TheInside.{Inside}
use Rattle.jahre.specs.Fields.{IsUsual}
use Rattle.jahre.specs.CalendarYear.{CalendarYear}
use Rattle.jahre.specs.Year.{year_numbers, on_weekday, weekdays, bettag_in, himmelfahrt_in, holidays}
use Rattle.jahre.specs.Year.{no_day, or_no_day, himmelfahrt_or, weekday_holidays, holiday_year}
use Rattle.jahre.proofs.Days.{Usual, usual}
use Rattle.jahre.proofs.Counts.{in_year, count_weekdays, year_among}

as_bit : (b : Bool) → from_bool b ≡ bit b
as_bit true = refl
as_bit false = refl

-- year_numbers
module _ (k s i : ℕ) (p : s ≡ year_start k) (index : i ≡ easter_index (1996 + k)) where
  pub in_its_year : s ≤ i
  in_its_year = omega (arith, index, easter_is k)

  module _ (f l : ℕ) (g : f ≡ weekday s) (u : l ≡ from_bool (is_leap (1996 + k))) where
    pub numbers : ◌≡◌ {A = YearNumbers} (record { first = f; leaps = l; easter = i - s }) (year_numbers k)
    unfolding year_numbers
    numbers = rw (u, g, index, p) (rw (as_bit (is_leap (1996 + k))))

    pub fields_usual : k ≤ 903 → IsUsual (record { first = f; leaps = l; easter = i - s })
    fields_usual h =
        let y = subst Usual (sym numbers) (usual k (omega arith)) in
        record {
          first_small = y.first_to;
          leaps_small = y.leaps_to;
          easter_late = omega (arith, y.easter_from);
          easter_small = y.easter_to;
          easter_sunday = y.on_sunday;
        }

pub ruleset year_rules = (in_its_year, numbers)

-- weekday_or_none
module _ (f x : ℕ) where
  pub is_weekday : (f + x) % 7 < 5 → x ≡ or_no_day f x
  unfolding or_no_day on_weekday
  is_weekday h = rw (lt-leb 5 ((f + x) % 7) h)

  pub is_none : 5 ≤ (f + x) % 7 → no_day ≡ or_no_day f x
  unfolding or_no_day on_weekday
  is_none h = rw (le-leb 5 ((f + x) % 7) h)

pub ruleset weekday_rules = (is_weekday, is_none)

-- himmelfahrt
module _
    (v : YearNumbers) (j : Fields)
    (view : ◌≡◌ {A = YearNumbers} (record { first = j.first; leaps = j.leaps; easter = j.easter }) v) where
  pub on_may : j.easter + 39 ≡ 120 + j.leaps → no_day ≡ himmelfahrt_or v.leaps v.easter
  on_may h =
      let e : no_day ≡ himmelfahrt_or j.leaps j.easter = rw (eq-eqb (j.easter + 39) (120 + j.leaps) h) in
      subst (λ (y : YearNumbers). no_day ≡ himmelfahrt_or y.leaps y.easter) view e

  pub not_on_may : (j.easter + 39 ≡ 120 + j.leaps → ⊥) → j.easter + 39 ≡ himmelfahrt_or v.leaps v.easter
  not_on_may h =
      let e : j.easter + 39 ≡ himmelfahrt_or j.leaps j.easter = rw (ne_eqb (j.easter + 39) (120 + j.leaps) h) in
      subst (λ (y : YearNumbers). j.easter + 39 ≡ himmelfahrt_or y.leaps y.easter) view e

pub ruleset may_rules = (on_may, not_on_may)

-- weekday_holidays: what moves with Easter, a Sunday, and Buß- und Bettag keep their weekdays
module _ (f e : ℕ) (s : (f + e) % 7 ≡ 6) where
  feast_on : (o : ℕ) → (6 + o) % 7 < 5 → e + o ≡ or_no_day f (e + o)
  feast_on o h = is_weekday f (e + o) (omega (arith, on o))
    where
      on : (o : ℕ) → (f + (e + o)) % 7 ≡ (6 + o) % 7
      on o = omega arith

  friday : 2 ≤ e → e - 2 ≡ or_no_day f (e - 2)
  friday h = is_weekday f (e - 2) (omega arith)

  whit_sunday : no_day ≡ or_no_day f (e + 49)
  whit_sunday = is_none f (e + 49) (omega arith)

  himmelfahrt_on : (l : ℕ) → himmelfahrt_or l e ≡ or_no_day f (himmelfahrt_in l e)
  himmelfahrt_on l = split (eqb (e + 39) (120 + l)) (λ t. rw t whit_sunday) (λ t. rw t (feast_on 39 (omega arith)))

bettag_on : (f l : ℕ) → bettag_in f l ≡ or_no_day f (bettag_in f l)
bettag_on f l = is_weekday f (bettag_in f l) (wednesday f l)
  where
    wednesday : (f l : ℕ) → (f + (325 + l - (f + l + 1) % 7)) % 7 < 5
    wednesday f l = omega arith

module _ (y : YearNumbers) where
  -- a0 to a12 are what `weekday_or_none` returned of the fixed days, h what `himmelfahrt` did
  pub listed_is :
      (a0 a1 a2 a3 a4 a5 a6 a7 a8 a9 a10 a11 a12 h : ℕ) →
      let f = y.first in
      let l = y.leaps in
      let e = y.easter in
      2 ≤ e → (f + e) % 7 ≡ 6 →
      a0 ≡ or_no_day f 0 → a1 ≡ or_no_day f 5 → a2 ≡ or_no_day f (66 + l) → a3 ≡ or_no_day f (120 + l) →
      a4 ≡ or_no_day f (226 + l) → a5 ≡ or_no_day f (262 + l) → a6 ≡ or_no_day f (275 + l) →
      a7 ≡ or_no_day f (303 + l) →
      a8 ≡ or_no_day f (304 + l) → a9 ≡ or_no_day f (357 + l) → a10 ≡ or_no_day f (358 + l) →
      a11 ≡ or_no_day f (359 + l) →
      a12 ≡ or_no_day f (364 + l) → h ≡ himmelfahrt_or l e →
      a0 ∷ a1 ∷ a2 ∷ a3 ∷ a4 ∷ a5 ∷ a6 ∷ a7 ∷ a8 ∷ a9 ∷ a10 ∷ a11 ∷ a12 ∷ bettag_in f l ∷ (e - 2) ∷ (e + 1) ∷ h ∷ no_day
      ∷ (e + 50) ∷ (e + 60) ∷ []
      ≡ weekday_holidays y
  unfolding weekday_holidays holidays
  listed_is a0 a1 a2 a3 a4 a5 a6 a7 a8 a9 a10 a11 a12 h u s e0 e1 e2 e3 e4 e5 e6 e7 e8 e9 e10 e11 e12 g =
      let f = y.first in
      let e = y.easter in
      let l = y.leaps in
      rw (e0, e1, e2, e3, e4, e5, e6, e7, e8, e9, e10, e11, e12, g)
      (rw (
        ← bettag_on f l,
        ← friday f e s u,
        ← feast_on f e s 1 (omega arith),
        ← himmelfahrt_on f e s l,
        ← whit_sunday f e s,
        ← feast_on f e s 50 (omega arith),
        ← feast_on f e s 60 (omega arith),
      ))

-- HolidayYear::new
module _ (k : ℕ) (y : YearNumbers) (e : y ≡ year_numbers k) where
  pub known :
      (cal : HolidayCalendar) (xs : List ℕ) → xs ≡ weekday_holidays y →
      ◌≡◌ {A = Inside} (record { cal = cal; year = k; first = y.first; holidays = xs }) (holiday_year cal k)
  unfolding holiday_year
  known BdewMaKo xs l = rw (l, e)

-- number_before
module _
    (n i m : ℕ) (days : List ℕ) (l : length days ≡ 20) (e : m + below (drop i days) n ≡ below days n) where
  pub number_more :
      (b : ℕ) → i < 20 → b ≡ from_bool (ltb (get_or days i 0) n) →
      m + b + below (drop (i + 1) days) n ≡ below days n
  unfolding below
  number_more b h q =
      let c = drop-cons days i 0 (omega arith) in
      let a = ap (λ (xs : List ℕ). below xs n) c in
      let s = ap (λ (j : ℕ). below (drop j days) n) (add-one i) in
      omega (arith, q, as_bit (ltb (get_or days i 0) n))

  pub number_all : 20 ≤ i → m ≡ below days n
  unfolding below
  number_all h =
      let b : length days ≤ i = omega arith in
      let q = ap (λ (xs : List ℕ). below xs n) (drop_of_length-le days b) in
      omega arith

pub number_few : (m i b : ℕ) (p : Bool) → m ≤ i → b ≡ from_bool p → m + b ≤ i + 1
number_few m i b p h e = omega (arith, as_bit p, bit_small p)

pub ruleset number_rules = (number_more, number_all, number_few)

-- werktage: among the days before n the holidays on weekdays are those that the year has in its list
bit_each : (f n x : ℕ) → n ≤ 366 → bit (ltb (or_no_day f x) n) ≡ bit (ltb x n && on_weekday f x)
unfolding or_no_day
bit_each f n x h =
    split (on_weekday f x)
    (λ t. rw (t, and_yes (ltb x n)))
    (λ t. rw (t, le-ltb no_day n h, and_no (ltb x n)))

below_each : (f n : ℕ) (hs : List ℕ) → n ≤ 366 → below (map (or_no_day f) hs) n ≡ each (on_weekday f) hs n
unfolding below each
below_each f n [] h = refl
below_each f n (x ∷ hs) h = ap₂ (λ (a b : ℕ). a + b) (bit_each f n x h) (below_each f n hs h)

known_is :
    (cal : HolidayCalendar) (k : ℕ) →
    ((holiday_year cal k).first ≡ (year_numbers k).first)
    × ((holiday_year cal k).holidays ≡ weekday_holidays (year_numbers k))
unfolding holiday_year
known_is BdewMaKo k = (refl, refl)

module _
    (v : CalendarYear) (j : Inside) (view : ◌≡◌ {A = CalendarYear} (record { calendar = j.cal; year = j.year }) v)
    (h : j.year ≤ 903) (e : j ≡ holiday_year j.cal j.year) where
  first_of : j.first ≡ (year_numbers j.year).first
  first_of = ap (λ (x : Inside). x.first) e ∙ (known_is j.cal j.year).0

  holidays_of : j.holidays ≡ weekday_holidays (year_numbers j.year)
  holidays_of = ap (λ (x : Inside). x.holidays) e ∙ (known_is j.cal j.year).1

  same_year : j.year ≡ v.year
  same_year = ap (λ (x : CalendarYear). x.year) view

  pub all_twenty : length j.holidays ≡ 20
  unfolding weekday_holidays holidays
  all_twenty = rw holidays_of

  pub first_few : j.first ≤ 400
  first_few = omega (arith, first_of, (usual j.year (omega arith)).first_to)

  module _ (n : ℕ) (g : n ≤ year_len v.year) where
    in_year_days : n ≤ year_len j.year
    in_year_days = rw same_year g

    pub days_on : j.first + n ≤ 400
    days_on = omega (arith, first_of, (usual j.year (omega arith)).first_to, in_year_days, year_len_bounds j.year)

    pub days_fit : Fits w32 (j.first + n)
    days_fit = record { fits = omega (arith, days_on) }

    module _ (a b : ℕ) (p : a ≡ weekdays (j.first + n)) (q : b ≡ weekdays j.first) where
      pub no_fewer : b ≤ a
      no_fewer = omega (arith, count_weekdays j.first n)

      module _ (m : ℕ) (s : m ≡ below j.holidays n) where
        struck : m ≡ each (on_weekday j.first) (holidays (year_numbers j.year)) n
        unfolding weekday_holidays
        struck =
            s ∙ ap (λ (xs : List ℕ). below xs n) holidays_of
            ∙ rw first_of
            (below_each _ n (holidays (year_numbers j.year)) (omega (arith, in_year_days, year_len_bounds j.year)))

        pub no_more : m ≤ a - b
        no_more =
            let y = year_numbers j.year in
            let f = on_weekday y.first in
            let s = count_strikes f (holidays y) n (usual j.year (omega arith)).once_each in
            omega (arith, rw first_of at struck, rw first_of at p, rw first_of at q, count_weekdays y.first n)

        pub counts : a - b - m ≡ among (is_werktag v.calendar) (year_start v.year) n
        unfolding in_year
        counts =
            let c : a - b - m ≡ among (is_werktag j.cal) (year_start j.year) n =
            rw (p, q, struck, first_of) (sym (year_among j.cal j.year n (omega arith) in_year_days)) in
            let P : CalendarYear → Type 0 = λ x. a - b - m ≡ among (is_werktag x.calendar) (year_start x.year) n in
            subst P view c

        pub counts_few : a - b - m ≤ n
        counts_few = omega (arith, count_weekdays j.first n, count_le (on_weekday j.first) n)

pub ruleset count_rules = (
  all_twenty,
  first_few,
  days_on,
  days_fit,
  no_fewer,
  no_more,
  counts,
  counts_few,
)
