-- Counts and steps through the year index are those of the walk. What the proofs of `index` and of the steps cite, with
-- premises in the form in which they stand there; w is the day test of the list.
--   day_rules     `werktage_before`: k and r are the year of a day and the day in it, b the entry
--                 of the year, m the Werktage of its first days
--   nth_rules     `nth_werktag`: b is the entry of the year k, m the Werktage of its first days that are skipped
--   step_rules    the steps: b is a count of Werktage, s what `nth_werktag` gave
--   between_rules the count: x and y are the Werktage up to its two days
-- Source: the laws of zaehlung, by which a step is said by counts.
-- Assumes nothing.
use Prim.Native.Nat.{ℕ, suc, ◌+◌, ◌-◌, ◌*◌, ◌/◌, ◌≤◌, ◌<◌}
use mathlib.Core.Bool.{Bool}
use mathlib.Core.Path.{◌≡◌, refl, sym, ap, ◌∙◌}
use native.Mathlib.Omega.{arith}
use native.Mathlib.Numerals.{add-one}
use Rattle.std.proofs.Common.{add-zero}
use mir.Syntax.{w32}
use mir.Val.{Fits}
use Rattle.zaehlung.specs.Walk.{last, among, count, add, sub, between}
use Rattle.zaehlung.proofs.Count.{count_none, count_mono, count_among}
use Rattle.zaehlung.proofs.BlockLaws.{start_suc, start_mono, at_sum}
use Rattle.zaehlung.proofs.Laws.{add_add, sub_add, add_out_iff, sub_out_iff}
use Rattle.zaehlung.proofs.Laws.{between_count, between_later}
use Rattle.datum.specs.Calendar.{year_len, year_start, year_of}
use Rattle.datum.proofs.Years.{start_none, start_all, year_len_bounds}
use Rattle.datum.proofs.Dates.{year_below, year_len_at}
use Rattle.werktag.specs.declared.HolidayCalendar.{HolidayCalendar}
use Rattle.werktag.specs.Werktag.{is_werktag}
use Rattle.jahre.proofs.Counts.{weeks_few, year_few}
use Rattle.jahresindex.specs.Werktage.{werktage}
use Rattle.jahresindex.proofs.Table.{all_is}
use Rattle.std.specs.Prelude.{Option, None}

-- the year of a day
pub year_at_lem :
    (day : ℕ) → day ≤ last →
    (year_start (year_of day).0 + (year_of day).1 ≡ day) × ((year_of day).0 < 904)
    × ((year_of day).1 < year_len (year_of day).0)
year_at_lem day h =
    let a = at_sum year_len 903 0 day in
    let b = year_below day h in
    (omega (arith, start_none), omega arith, omega (arith, year_len_at (1996 + (year_of day).0) (year_of day).0 refl))

pub at_year :
    (day k r : ℕ) → day ≤ last → k ≡ (year_of day).0 → r ≡ (year_of day).1 →
    (year_start k + r ≡ day) × (k < 904) × (r < year_len k)
at_year day k r h p q = rw (p, q) (year_at_lem day h)

module _ (cal : HolidayCalendar) where
  abbrev w : ℕ → Bool
  w = is_werktag cal

  pub at_most_all : (d : ℕ) → d ≤ suc last → count w d ≤ werktage
  at_most_all d h = omega (arith, all_is cal, count_mono w d (suc last) h)

  pub all_of : (n : ℕ) → n ≤ werktage → n ≤ count w (suc last)
  all_of n h = omega (arith, all_is cal)

  -- 1 January 1996 is none
  first_closed : count w 1 ≡ 0
  first_closed =
      let a = ap (λ (d : ℕ). among w d 1) start_none in
      let l = year_len_bounds 0 in
      omega (arith, weeks_few cal 0 0 (omega arith) (omega arith), count_among w 0 1, count_none w)

  -- the Werktage up to any day of a year
  module _
      (k n b m : ℕ) (h : k ≤ 903) (g : n ≤ year_len k) (e : b ≡ count w (year_start k))
      (u : m ≡ among w (year_start k) n) where
    sum_is : b + m ≡ count w (year_start k + n)
    sum_is = omega (arith, count_among w (year_start k) n)

    pub sum_most : b + m ≤ werktage
    sum_most =
        let s = start_mono year_len (suc k) 904 (omega arith) in
        omega (arith, sum_is, at_most_all (year_start k + n) (omega (arith, start_suc year_len k, start_all)))

    pub sum_fits : Fits w32 (b + m)
    sum_fits = record { fits = omega (arith, sum_most) }

    pub sum_at : (day : ℕ) → year_start k + n ≡ day → b + m ≡ count w day
    sum_at day q = sum_is ∙ ap (count w) q

  module _ (day k r more : ℕ) (h : day ≤ last) (p : k ≡ (year_of day).0) (q : r ≡ (year_of day).1) (a : more ≤ 1) where
    pub more_at : year_start k + (r + more) ≡ day + more
    more_at = omega (arith, at_year day k r h p q)

    pub more_in_year : r + more ≤ year_len k
    more_in_year = omega (arith, at_year day k r h p q)

    pub more_fits : Fits w32 (r + more)
    more_fits = record { fits = omega (arith, more_in_year, year_len_bounds k) }

  module _
      (n k b : ℕ) (h : k ≤ 903) (e : b ≡ count w (year_start k)) (l : b < n)
      (g : n ≤ count w (year_start (k + 1))) where
    -- the weeks that are skipped
    abbrev q : ℕ
    q = (n - b - 1) / 5

    abbrev days : ℕ
    days = q * 7

    pub rest_few : n - b ≤ 262
    rest_few =
        let s = ap year_start (add-one k) in
        let c = ap (count w) (s ∙ start_suc year_len k) in
        omega (arith, count_among w (year_start k) (year_len k), year_few cal k (omega arith))

    weeks_by : (q ≤ 52) × (5 * q < n - b)
    weeks_by = (omega (arith, rest_few), omega arith)

    pub days_few : days ≤ 364
    days_few = omega (arith, weeks_by)

    pub days_in : days + 1 ≤ year_len k
    days_in = omega (arith, days_few, year_len_bounds k)

    module _ (m : ℕ) (u : m ≡ among w (year_start k) (days + 1)) where
      pub fewer : m < n - b
      fewer =
          let t : days + 1 ≡ 7 * q + 1 = omega arith in
          let x = ap (among w (year_start k)) t in
          omega (arith, weeks_few cal k q (omega arith) (omega (arith, days_in)), weeks_by)

      pub fewer_by : m ≤ n - b
      fewer_by = omega (arith, fewer)

      module _ (s : ℕ) (v : s ≡ year_start k) where
        pub guess_in : s + days ≤ last
        guess_in =
            let o = ap year_start (add-one k) in
            omega (arith, days_in, start_suc year_len k, start_mono year_len (k + 1) 904 (omega arith), start_all)

        nth : add w (s + days) (n - b - m) ≡ add w 0 n
        nth =
            let o : year_start k + (days + 1) ≡ suc (s + days) = omega arith in
            let c = ap (count w) o in
            add_add w 0 n (omega arith) (omega arith) (s + days) (n - b - m) guess_in (omega (arith, fewer))
            (omega (arith, first_closed, count_among w (year_start k) (days + 1), fewer))

        pub nth_is : (f : ℕ) (x : Option ℕ) → f ≡ s + days → x ≡ add w f (n - b - m) → x ≡ add w 0 n
        nth_is f x z i = i ∙ ap (λ (y : ℕ). add w y (n - b - m)) z ∙ nth

  module _ (d n b : ℕ) (h : d ≤ last) where
    pub add_outside : b ≡ count w (d + 1) → werktage - b < n → None ≡ add w d n
    add_outside e' l =
        let e : b ≡ count w (suc d) = e' ∙ ap (count w) (add-one d) in sym ((add_out_iff w d n h).1 (omega (
          arith,
          all_is cal,
        )))

    pub add_is : (s : Option ℕ) → b ≡ count w (d + 1) → 1 ≤ n → s ≡ add w 0 (b + n) → s ≡ add w d n
    add_is s e' l i =
        let e : b ≡ count w (suc d) = e' ∙ ap (count w) (add-one d) in
        i ∙ sym (add_add w 0 (b + n) (omega arith) (omega arith) d n h (omega arith) (omega (arith, first_closed)))

    pub sub_outside : b ≡ count w (d + 0) → b < n → None ≡ sub w d n
    sub_outside e' l = let e : b ≡ count w d = e' ∙ ap (count w) (add-zero d) in sym ((sub_out_iff w d n).1
        (omega arith))

    pub sub_is : (s : Option ℕ) → b ≡ count w (d + 0) → 1 ≤ n → n ≤ b → s ≡ add w 0 (b - n + 1) → s ≡ sub w d n
    sub_is s e' l m i =
        let e : b ≡ count w d = e' ∙ ap (count w) (add-zero d) in
        i ∙ sym (sub_add w 0 (b - n + 1) (omega arith) (omega arith) d n h (omega arith) (omega (arith, first_closed)))

  pub not_later : (a b : ℕ) → b ≤ a → 0 ≡ between w a b
  not_later a b h = sym (between_later w a b h)

  module _ (a b x y : ℕ) (h : a < b) (p' : x ≡ count w (a + 1)) (q' : y ≡ count w (b + 1)) where
    to_first : x ≡ count w (suc a)
    to_first = p' ∙ ap (count w) (add-one a)

    to_second : y ≡ count w (suc b)
    to_second = q' ∙ ap (count w) (add-one b)

    pub difference : y - x ≡ between w a b
    difference = omega (arith, to_first, to_second, between_count w a b (omega arith))

    pub no_less : x ≤ y
    no_less = omega (arith, to_first, to_second, between_count w a b (omega arith))

pub ruleset day_rules = (sum_most, sum_fits, sum_at, more_at, more_in_year, more_fits)

pub ruleset nth_rules =
    (all_of, rest_few, days_few, days_in, fewer, fewer_by, guess_in, nth_is)

pub ruleset step_rules = (add_outside, add_is, sub_outside, sub_is)

pub ruleset between_rules = (not_later, difference, no_less)
