-- What the proofs of this crate's functions cite, with premises in the form in which they stand there.
--   holds_rules       `IndexedYear::holds`: a are the fields of the year v
--   through_rules     `IndexedYear::through`: m the Werktage of the year's days up to the day d
--   difference_rules  `IndexedYear::werktage_between`: x and y are the Werktage up to its two days
--   is_of_rules       `is_of`
--   run_rules         `go_on`: p and q are what `index` returned of the pair's days, x and z their indexes, o is what
--                     `is_of` did of the run r
--   pair_rules        `pair_count`: the same, and r is the run
--   within            the days of a pair in range
-- Assumes nothing.
use Prim.Native.Nat.{ℕ, suc, ◌+◌, ◌-◌, ◌≤◌, ◌<◌}
use mathlib.Core.Bool.{Bool, true, false, not}
use mathlib.Core.Path.{◌≡◌, sym, ap, ap₂, ◌∙◌, subst}
use native.Mathlib.Omega.{arith}
use lib.Dec.{eqb, leb, ltb}
use borrow.Author.Tests.{eq-eqb, ne_eqb, eqb-true, eqb-false, leb-true, ltb-true, ltb-false}
use mir.Syntax.{w32}
use mir.Val.{Fits}
use Rattle.std.specs.Prelude.{Option, Some, None, IfSome}
use Rattle.zaehlung.specs.Walk.{last, among, count, between}
use Rattle.zaehlung.proofs.Tests.{and_left, and_right, and_no}
use Rattle.zaehlung.proofs.Every.{split}
use Rattle.zaehlung.proofs.Laws.{between_count, between_later}
use Rattle.zaehlung.proofs.BlockLaws.{start_suc, at_is}
use Rattle.datum.specs.Calendar.{year_len, year_start, year_of}
use Rattle.datum.proofs.Years.{start_none}
use Rattle.werktag.specs.declared.HolidayCalendar.{HolidayCalendar}
use Rattle.werktag.specs.Werktag.{is_werktag}
use Rattle.jahre.specs.CalendarYear.{CalendarYear}
use Rattle.jahresindex.specs.Werktage.{werktage}
use Rattle.schritte.proofs.IndexRules.{year_at_lem, sum_most, sum_at}
use Rattle.portfolio.specs.declared.IndexedYear.TheInside.{Inside}
use Rattle.portfolio.specs.Portfolio.{in_calendar, in_range, pair_count}
use Rattle.portfolio.specs.Runs.{beginning, opens}
use Rattle.portfolio.specs.Fields.{IsIndexed}
use Rattle.portfolio.specs.Inside.{index, year_by, run_of, year_of_run}

-- the year of a day of the calendar
in_its_year : (d k : ℕ) → k ≤ 903 → year_start k ≤ d → d < year_start (suc k) → (year_of d).0 ≡ k
in_its_year d k h f g =
    let s = start_suc year_len k in
    ap (λ (x : ℕ × ℕ). x.0)
    (at_is year_len 903 0 k d (d - year_start k) (omega arith) (omega arith) (omega (arith, start_none)) (omega arith))

year_is : (d : ℕ) → d ≤ last →
    (year_start (year_of d).0 ≤ d) × (d < year_start (suc (year_of d).0)) × ((year_of d).0 ≤ 903)
year_is d h =
    let y = year_at_lem d h in
    let s = start_suc year_len (year_of d).0 in
    (omega arith, omega arith, omega arith)

module _ (a : Inside) (v : CalendarYear) (view : a.known ≡ v) (i : IsIndexed a) (d : ℕ) (h : d ≤ last) where
  same_year : a.known.year ≡ v.year
  same_year = ap (λ (x : CalendarYear). x.year) view

  -- IndexedYear::holds
  in_year : a.first ≤ d → d < a.after → v.year ≡ (year_of d).0
  in_year f g =
      let k = in_its_year d a.known.year i.its_year (omega (arith, i.its_first)) (omega (arith, i.its_after)) in
      omega (arith, same_year)

  year_in : v.year ≡ (year_of d).0 → (a.first ≤ d) × (d < a.after)
  year_in e =
      let k : (year_of d).0 ≡ a.known.year = omega (arith, same_year) in
      let y = rw k at (year_is d h) in
      (omega (arith, i.its_first), omega (arith, i.its_after))

  pub holds_then : a.first ≤ d → ltb d a.after ≡ eqb v.year (year_of d).0
  holds_then f =
      split (ltb d a.after)
      (λ t. t ∙ sym (eq-eqb v.year (year_of d).0 (in_year f (ltb-true d a.after t))))
      (λ t. t ∙ sym (ne_eqb v.year (year_of d).0 (λ e. omega (arith, year_in e, ltb-false d a.after t))))

  pub holds_else : d < a.first → false ≡ eqb v.year (year_of d).0
  holds_else f = sym (ne_eqb v.year (year_of d).0 (λ e. omega (arith, year_in e)))

  -- IndexedYear::through
  module _ (y : v.year ≡ (year_of d).0) where
    pub first_before : a.first ≤ d
    first_before = (year_in y).0

    pub day_in : d - a.first + 1 ≤ year_len a.known.year
    day_in = omega (arith, year_in y, i.its_first, i.its_after, start_suc year_len a.known.year)

    pub day_fits : Fits w32 (d - a.first + 1)
    day_fits = record { fits = omega arith }

    module _ (m : ℕ) (p : m ≡ among (is_werktag a.known.calendar) (year_start a.known.year) (d - a.first + 1)) where
      pub through_is : a.before + m ≡ count (is_werktag v.calendar) (suc d)
      through_is =
          let c =
          sum_at a.known.calendar a.known.year (d - a.first + 1) a.before m i.its_year day_in i.its_entry p (suc d)
          (omega (arith, i.its_first, first_before)) in
          let P : CalendarYear → Type 0 = λ x. a.before + m ≡ count (is_werktag x.calendar) (suc d) in
          subst P view c

      pub through_most : a.before + m ≤ werktage
      through_most =
          sum_most a.known.calendar a.known.year (d - a.first + 1) a.before m i.its_year day_in i.its_entry p

      pub through_fits : Fits w32 (a.before + m)
      through_fits = record { fits = omega (arith, through_most) }

pub ruleset holds_rules = (holds_then, holds_else)

pub ruleset through_rules = (first_before, day_in, day_fits, through_is, through_most, through_fits)

-- IndexedYear::werktage_between
pub not_later : (cal : HolidayCalendar) (a b : ℕ) → b ≤ a → 0 ≡ between (is_werktag cal) a b
not_later cal a b h = sym (between_later (is_werktag cal) a b h)

module _
    (cal : HolidayCalendar) (a b x y : ℕ) (h : a < b) (p : x ≡ count (is_werktag cal) (suc a))
    (q : y ≡ count (is_werktag cal) (suc b)) where
  pub no_less : x ≤ y
  no_less = omega (arith, between_count (is_werktag cal) a b (omega arith))

  pub difference : y - x ≡ between (is_werktag cal) a b
  difference = omega (arith, between_count (is_werktag cal) a b (omega arith))

pub ruleset difference_rules = (not_later, no_less, difference)

-- is_of
module _ (r : Option CalendarYear) (k : ℕ) where
  pub number_some : (y : CalendarYear) (p : Bool) → r ≡ Some y → p ≡ eqb y.year k → p ≡ eqb (year_of_run r) (1996 + k)
  number_some y p e q =
      rw e
      (q ∙ split (eqb y.year k)
      (λ t. t ∙ sym (eq-eqb (1996 + y.year) (1996 + k) (omega (arith, eqb-true y.year k t))))
      (λ t. t ∙ sym (ne_eqb (1996 + y.year) (1996 + k) (λ u. eqb-false y.year k t (omega arith)))))

  pub number_none : r ≡ None → false ≡ eqb (year_of_run r) (1996 + k)
  number_none e = rw e (sym (ne_eqb 0 (1996 + k) (λ u. omega arith)))

pub ruleset is_of_rules = (number_some, number_none)

-- a day and a pair by their indexes
module _ (a : ℕ) where
  day_out : None ≡ index a → in_calendar a ≡ false
  day_out e =
      split (in_calendar a) (λ t. let z : None ≡ Some (a - 9496) = e ∙ rw t in cc) (λ t. t)

  day_at : (x : ℕ) → Some x ≡ index a → (in_calendar a ≡ true) × (x ≡ a - 9496)
  day_at x e =
      split (in_calendar a)
      (λ t. let z : Some x ≡ Some (a - 9496) = e ∙ rw t in (t, cc))
      (λ t. let z : Some x ≡ None = e ∙ rw t in cc)

  pub index_small : (x : ℕ) (p : Option ℕ) → p ≡ index a → p ≡ Some x → x ≤ last
  index_small x p e u =
      let m = day_at x (sym u ∙ e) in
      omega (arith, m.1, leb-true a 339675 (and_right (leb 9496 a) (leb a 339675) m.0))

module _ (a b : ℕ) where
  pub within : in_range a b ≡ true → (9496 ≤ a) × (a ≤ 339675) × (9496 ≤ b) × (b ≤ 339675)
  unfolding in_range
  within t =
      let f = and_left (in_calendar a) (in_calendar b) t in
      let s = and_right (in_calendar a) (in_calendar b) t in (
        leb-true 9496 a (and_left (leb 9496 a) (leb a 339675) f),
        leb-true a 339675 (and_right (leb 9496 a) (leb a 339675) f),
        leb-true 9496 b (and_left (leb 9496 b) (leb b 339675) s),
        leb-true b 339675 (and_right (leb 9496 b) (leb b 339675) s),
      )

-- a pair out of range: one of its days has no index
module _ (a b : ℕ) (p : Option ℕ) where
  pub not_first : p ≡ index a → p ≡ None → in_range a b ≡ false
  unfolding in_range
  not_first e u = rw (day_out a (sym u ∙ e))

  pub not_second : p ≡ index b → p ≡ None → in_range a b ≡ false
  unfolding in_range
  not_second e u = rw (day_out b (sym u ∙ e), and_no (in_calendar a))

module _ (cal : HolidayCalendar) (a b : ℕ) (t : in_range a b ≡ false) where
  pub none_run : None ≡ run_of cal a b
  unfolding run_of
  none_run = rw t

  pub none_opened : (n : ℕ) → false ≡ opens n (beginning a b)
  unfolding opens beginning
  none_opened n = rw t

  pub pair_out : 4294967295 ≡ pair_count (is_werktag cal) a b
  unfolding pair_count
  pair_out = rw t

-- a pair in range, by the indexes x and z of its days
module _
    (cal : HolidayCalendar) (a b x z : ℕ) (p q : Option ℕ) (e : p ≡ index a) (u : p ≡ Some x) (f : q ≡ index b)
    (v : q ≡ Some z) where
  is_in : (in_range a b ≡ true) × (x ≡ a - 9496) × (z ≡ b - 9496)
  unfolding in_range
  is_in =
      let m = day_at a x (sym u ∙ e) in
      let n = day_at b z (sym v ∙ f) in
      (rw (m.0, n.0), m.1, n.1)

  pub its_run : (y : CalendarYear) → y ≡ year_by cal x → Some y ≡ run_of cal a b
  unfolding run_of
  its_run y h = rw (is_in.0, h, is_in.1)

  begins_in : beginning a b ≡ 1996 + (year_of x).0
  unfolding beginning
  begins_in = rw (is_in.0, is_in.1)

  -- go_on: o is what `is_of` did of the run r
  module _ (r : Option CalendarYear) (o : Bool) (k : o ≡ eqb (year_of_run r) (1996 + (year_of x).0)) where
    pub stays : o ≡ true → IfSome r (λ y. y.calendar ≡ cal) → r ≡ run_of cal a b
    stays u = go r (eqb-true (year_of_run r) (1996 + (year_of x).0) (sym k ∙ u))
      where
        go :
            (r : Option CalendarYear) → year_of_run r ≡ 1996 + (year_of x).0 → IfSome r (λ y. y.calendar ≡ cal) →
            r ≡ run_of cal a b
        go None n c = absurd (omega arith)
        go (Some y) n c =
            let k : y.year ≡ (year_of x).0 = omega arith in
            its_run y (ap₂ (λ (h : HolidayCalendar) (m : ℕ). record { calendar = h; year = m }) c k)

    pub not_opened : o ≡ true → false ≡ opens (year_of_run r) (beginning a b)
    unfolding opens
    not_opened u = rw (begins_in, sym k ∙ u) (sym (and_no (not (eqb (1996 + (year_of x).0) 0))))

    pub is_opened : o ≡ false → true ≡ opens (year_of_run r) (beginning a b)
    unfolding opens
    is_opened u = rw (begins_in, sym k ∙ u, ne_eqb (1996 + (year_of x).0) 0 (λ h. omega arith))

  -- pair_count
  pub pair_is : (n : ℕ) → n ≡ between (is_werktag cal) x z → n ≡ pair_count (is_werktag cal) a b
  unfolding pair_count
  pair_is n g = rw (is_in.0, g, is_in.1, is_in.2)

pub ruleset run_rules =
    (not_first, not_second, none_run, none_opened, index_small, its_run, stays, not_opened, is_opened)

-- pair_count: r is the run
module _ (cal : HolidayCalendar) (a b : ℕ) where
  pub pair_year :
      (x : ℕ) (p : Option ℕ) (y : CalendarYear) (r : Option CalendarYear) →
      p ≡ index a → p ≡ Some x → r ≡ run_of cal a b → r ≡ Some y → y ≡ year_by cal x
  unfolding run_of
  pair_year x p y r e u g h =
      rw (day_at a x (sym u ∙ e)).1
      (split (in_range a b)
      (λ t. let k : Some y ≡ Some (year_by cal (a - 9496)) = sym h ∙ g ∙ rw t in cc)
      (λ t. let k : Some y ≡ None = sym h ∙ g ∙ rw t in cc))

  pub no_run : (r : Option CalendarYear) → r ≡ run_of cal a b → r ≡ None → 4294967295 ≡ pair_count (is_werktag cal) a b
  unfolding pair_count run_of
  no_run r e u =
      split (in_range a b)
      (λ t. let z : None ≡ Some (year_by cal (a - 9496)) = sym u ∙ e ∙ rw t in cc)
      (λ t. rw t)

pub ruleset pair_rules = (not_first, not_second, pair_out, no_run, index_small, pair_year, pair_is)
