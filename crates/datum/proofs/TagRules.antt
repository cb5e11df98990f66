-- A day taken apart, a few days later or earlier: the date that is put together is a date of the range with the index
-- that stands beside it, and no other date has that index.
--   tag_date       what is known of a day taken apart
--   tag_is         a date of the range beside its index
--   year_rules     its year, and the year's first day
--   near_rules     `date_near`
--   later_rules, earlier_rules  the returns of the functions of days later and earlier: in the month, past its end or
--                  before its first, and past the year's
-- Assumes nothing.
use Prim.Native.Nat.{ℕ, zero, suc, ◌+◌, ◌-◌, ◌≤◌, ◌<◌}
use mathlib.Core.Path.{◌≡◌, refl, sym, ap, ◌∙◌}
use mathlib.Core.Bool.{Bool}
use native.Mathlib.Omega.{arith}
use native.Mathlib.Numerals.{add-one}
use native.Mathlib.Decide.{dec_lt}
use mir.Syntax.{w8, w16}
use mir.Val.{Fits}
use Rattle.zaehlung.specs.Walk.{last}
use Rattle.zaehlung.proofs.BlockLaws.{start_suc, start_mono, at_sum}
use Rattle.datum.specs.declared.Date.{Date}
use Rattle.datum.specs.Calendar.{is_leap, year_len, year_start, year_of, days_in_month, month_start, days_before}
use Rattle.datum.specs.Calendar.{date_in}
use Rattle.datum.specs.Calendar.{index_of, date_of}
use Rattle.datum.proofs.Years.{start_all, start_none}
use Rattle.datum.proofs.Dates.{Valid, len_le, len_ge, months_sum, month_first, year_len_at, date_index}
use Rattle.datum.proofs.Dates.{index_date, index_below}
use Rattle.datum.proofs.RoundTrip.{has_index}
use Rattle.std.specs.Prelude.{Some}

pub tag_is : (d : Date) (j : ℕ) → Valid d → days_before d ≡ j → (d ≡ date_of j) × (j ≤ last)
tag_is d j v q = (sym (rw q at (date_index d v)), omega (arith, index_below d v, q))

pub length_rule :
    (y m s : ℕ) (x : Bool) → x ≡ is_leap y → s ≡ days_in_month x m → s ≡ days_in_month (is_leap y) m
length_rule y m s x f o = o ∙ ap (λ (b : Bool). days_in_month b m) f

pub tag_date : (i : ℕ) (d : Date) → d ≡ date_of i → i ≤ last → Valid d × (days_before d ≡ i)
tag_date i d e h = rw e (index_date i h)

-- the year of a day, and its first
module _ (i : ℕ) (d : Date) (e : d ≡ date_of i) (h : i ≤ last) where
  abbrev y : ℕ × ℕ
  y = year_of i

  valid : Valid d
  valid = (tag_date i d e h).0

  year_is : d.year ≡ 1996 + y.0
  unfolding date_of date_in
  year_is = ap (λ (x : Date). x.year) e

  pub year_from : 1996 ≤ d.year
  year_from = valid.from

  pub year_by : d.year - 1996 ≤ 903
  year_by = omega (arith, valid.to)

  pub year_within : d.year - 1996 ≤ 904
  year_within = omega (arith, year_by)

  pub year_number : d.year - 1996 ≡ y.0
  year_number = omega (arith, year_is)

  sum : year_start y.0 + y.1 ≡ i
  sum = omega (arith, at_sum year_len 903 0 i, start_none)

  module _ (s : ℕ) (q : s ≡ year_start (d.year - 1996)) where
    pub start_by : s ≤ i
    start_by = omega (arith, sum, q ∙ ap year_start year_number)

    pub day_number : i - s ≡ y.1
    day_number = omega (arith, sum, q ∙ ap year_start year_number)

  pub day_by : (r : ℕ) → r ≡ y.1 → r ≤ i
  day_by r q = omega (arith, sum)

  pub new_year :
      (r : ℕ) → r ≡ y.1 →
      (record { year = d.year; month = 1; day = 1 } ≡ date_of (i - r)) × (i - r ≤ last)
  new_year r q =
      let u = len_ge (is_leap d.year) 1 (omega arith) (omega arith) in
      tag_is _ (i - r)
      (record {
        from = valid.from;
        to = valid.to;
        month_from = omega arith;
        month_to = omega arith;
        day_from = omega arith;
        day_to = omega arith;
      })
      (omega (arith, sum, ap year_start year_number, month_first (is_leap d.year)))

  pub new_year_index : (r : ℕ) → r ≡ y.1 → i - r ≡ i - y.1
  new_year_index r q = ap (λ (x : ℕ). i - x) q

pub ruleset year_rules =
    (year_from, year_by, year_within, year_number, start_by, day_number, day_by, new_year, new_year_index)

-- a year with another after it
last_year_lem : (k : ℕ) → year_start (suc k) ≤ last → k < 903
last_year_lem k h =
    elim (dec_lt k 903) [
      | yes l ↦ l
      | no l ↦ absurd (omega (arith, start_mono year_len 904 (suc k) (omega arith), start_all))
    ]

-- a year with days before it
not_first : (k : ℕ) → 1 ≤ year_start k → 1 ≤ k
not_first zero h = absurd (omega (arith, start_none))
not_first (suc k) h = omega arith

december : (l : Bool) → days_in_month l 12 ≡ 31
unfolding days_in_month
december l = refl

-- a month has as many days as are counted back from its last
pub enough_days : (n m s d : ℕ) (x : Bool) → n ≤ 28 → 1 < m → m ≤ 12 → s ≡ days_in_month x (m - 1) → n ≤ s + d
enough_days n m s d x g h i o = omega (arith, len_ge x (m - 1) (omega arith) (omega arith))

-- a date with the index j
pub tag_of_rule : (d : Date) (j : ℕ) → index_of d ≡ Some j → (d ≡ date_of j) × (j ≤ last)
tag_of_rule d j e = let v = has_index d j e in tag_is d j v.0 v.1

-- d is the date of the day i
module _ (i n : ℕ) (d : Date) (e : d ≡ date_of i) (g : n ≤ 28) where
  abbrev l : Bool
  l = is_leap d.year

  abbrev k : ℕ
  k = d.year - 1996

  module _ (h : i + n ≤ last) where
    v : Valid d
    v = (tag_date i d e (omega arith)).0

    index : days_before d ≡ i
    index = (tag_date i d e (omega arith)).1

    pub day_fits : Fits w8 (d.day + n)
    day_fits = record { fits = omega (arith, v.day_to, len_le l d.month) }

    pub year_fits : Fits w16 (d.year + 1)
    year_fits = record { fits = omega (arith, v.to) }

    pub later_in_month :
        d.day + n ≤ days_in_month l d.month →
        (record { year = d.year; month = d.month; day = d.day + n } ≡ date_of (i + n)) × (i + n ≤ last)
    later_in_month a =
        tag_is _ (i + n)
        (record {
          from = v.from;
          to = v.to;
          month_from = v.month_from;
          month_to = v.month_to;
          day_from = omega (arith, v.day_from);
          day_to = omega arith;
        })
        (omega (arith, index, v.day_from))

    module _ (s : ℕ) (q : s ≡ days_in_month l d.month) where
      pub later_in_year :
          s < d.day + n → d.month < 12 →
          (record { year = d.year; month = d.month + 1; day = d.day + n - s } ≡ date_of (i + n)) × (i + n ≤ last)
      later_in_year a b =
          let u = len_ge l (d.month + 1) (omega arith) (omega arith) in
          let z = start_suc (days_in_month l) d.month in
          let w : month_start l (d.month + 1) ≡ month_start l (suc d.month) = rw add-one in
          tag_is _ (i + n)
          (record {
            from = v.from;
            to = v.to;
            month_from = omega arith;
            month_to = omega arith;
            day_from = omega arith;
            day_to = omega (arith, v.day_to, q);
          })
          (omega (arith, index, v.day_from, v.day_to, q))

      pub later_over_year :
          s < d.day + n → 12 ≤ d.month →
          (record { year = d.year + 1; month = 1; day = d.day + n - s } ≡ date_of (i + n)) × (i + n ≤ last)
      later_over_year a b =
          let m : d.month ≡ 12 = omega (arith, v.month_to) in
          let u = len_ge (is_leap (d.year + 1)) 1 (omega arith) (omega arith) in
          let p : 1996 + k ≡ d.year = omega (arith, v.from) in
          let x = year_len_at d.year k (sym p) in
          let y = start_suc year_len k in
          let f = start_suc (days_in_month l) 12 in
          let j0 : year_start k + month_start l 12 + (d.day - 1) ≡ i = rw m at index in
          let r : s ≡ days_in_month l 12 = q ∙ ap (days_in_month l) m in
          let z : d.year + 1 - 1996 ≡ suc k = omega (arith, v.from) in
          let o : d.day ≤ days_in_month l 12 = rw m at v.day_to in
          let w = last_year_lem k (omega (arith, months_sum l, v.day_from)) in
          tag_is _ (i + n)
          (record {
            from = omega (arith, v.from);
            to = omega arith;
            month_from = omega arith;
            month_to = omega arith;
            day_from = omega arith;
            day_to = omega arith;
          })
          (rw z (omega (arith, month_first (is_leap (d.year + 1)), months_sum l, v.day_from)))

  module _ (h : i ≤ last) (b : n ≤ i) where
    from : Valid d
    from = (tag_date i d e h).0

    at_index : days_before d ≡ i
    at_index = (tag_date i d e h).1

    pub earlier_in_month :
        n < d.day →
        (record { year = d.year; month = d.month; day = d.day - n } ≡ date_of (i - n)) × (i - n ≤ last)
    earlier_in_month a =
        tag_is _ (i - n)
        (record {
          from = from.from;
          to = from.to;
          month_from = from.month_from;
          month_to = from.month_to;
          day_from = omega arith;
          day_to = omega (arith, from.day_to);
        })
        (omega (arith, at_index))

    pub month_most : d.month ≤ 12
    month_most = from.month_to

    pub year_some : 1 ≤ d.year
    year_some = omega (arith, from.from)

    module _ (a : d.day ≤ n) where
      pub earlier_in_year :
          (s : ℕ) (x : Bool) → 1 < d.month → x ≡ is_leap d.year → s ≡ days_in_month x (d.month - 1) →
          (record { year = d.year; month = d.month - 1; day = s + d.day - n } ≡ date_of (i - n)) × (i - n ≤ last)
      earlier_in_year s x m f o =
          let p = d.month - 1 in
          let r : suc p ≡ d.month = omega arith in
          let q : s ≡ days_in_month l p = o ∙ ap (λ (b : Bool). days_in_month b p) f in
          let u = len_ge l p (omega arith) (omega (arith, from.month_to)) in
          let z : month_start l d.month ≡ month_start l p + days_in_month l p = sym (ap (month_start l) r)
          ∙ start_suc (days_in_month l) p in
          tag_is _ (i - n)
          (record {
            from = from.from;
            to = from.to;
            month_from = omega arith;
            month_to = omega (arith, from.month_to);
            day_from = omega (arith, from.day_from);
            day_to = omega arith;
          })
          (omega (arith, at_index, from.day_from))

      pub earlier_over_year :
          d.month ≤ 1 →
          (record { year = d.year - 1; month = 12; day = 31 + d.day - n } ≡ date_of (i - n)) × (i - n ≤ last)
      earlier_over_year m =
          let o : d.month ≡ 1 = omega (arith, from.month_from) in
          let j0 : year_start k + month_start l 1 + (d.day - 1) ≡ i = rw o at at_index in
          let f = not_first k (omega (arith, month_first l, from.day_from)) in
          let j = k - 1 in
          let b' = is_leap (d.year - 1) in
          let q : suc j ≡ k = omega arith in
          let r : d.year - 1 ≡ 1996 + j = omega (arith, from.from) in
          let z : d.year - 1 - 1996 ≡ j = omega (arith, from.from) in
          let u : year_start k ≡ year_start j + year_len j = sym (ap year_start q) ∙ start_suc year_len j in
          let x = year_len_at (d.year - 1) j r in
          let w = start_suc (days_in_month b') 12 in
          tag_is _ (i - n)
          (record {
            from = omega arith;
            to = omega (arith, from.to);
            month_from = omega arith;
            month_to = omega arith;
            day_from = omega (arith, from.day_from);
            day_to = omega (arith, december b');
          })
          (rw z (omega (arith, month_first l, months_sum b', december b', from.day_from)))

-- the same, for a day i whose fields are the index j and the date d
module _ (j i n : ℕ) (d : Date) (k : (d ≡ date_of j) × (j ≤ last)) (v : j ≡ i) (g : n ≤ 28) where
  abbrev e : d ≡ date_of j
  e = k.0

  here : d ≡ date_of i
  here = e ∙ ap date_of v

  module _ (h : i + n ≤ last) where
    at : j + n ≤ last
    at = omega arith

    pub day_of_fits : Fits w8 (d.day + n)
    day_of_fits = day_fits j n d e g at

    pub year_of_fits : Fits w16 (d.year + 1)
    year_of_fits = year_fits j n d e g at

    pub tag_in_month :
        (date_of i).day + n ≤ days_in_month (is_leap (date_of i).year) (date_of i).month →
        (record { year = d.year; month = d.month; day = d.day + n } ≡ date_of (j + n)) × (j + n ≤ last)
    tag_in_month a = later_in_month j n d e g at (rw here a)

    module _ (s : ℕ) (q : s ≡ days_in_month (is_leap (date_of i).year) (date_of i).month) where
      len : s ≡ days_in_month (is_leap d.year) d.month
      len = rw here q

      pub tag_in_year :
          s < (date_of i).day + n → d.month < 12 →
          (record { year = d.year; month = d.month + 1; day = d.day + n - s } ≡ date_of (j + n)) × (j + n ≤ last)
      tag_in_year a b = later_in_year j n d e g at s len (rw here a) b

      pub tag_over_year :
          s < (date_of i).day + n → 12 ≤ d.month →
          (record { year = d.year + 1; month = 1; day = d.day + n - s } ≡ date_of (j + n)) × (j + n ≤ last)
      tag_over_year a b = later_over_year j n d e g at s len (rw here a) b

  module _ (b : n ≤ i) where
    back : n ≤ j
    back = omega arith

    pub tag_month_most : d.month ≤ 12
    tag_month_most = month_most j n d e g k.1 back

    pub tag_year_some : 1 ≤ d.year
    tag_year_some = year_some j n d e g k.1 back

    pub tag_back_in_month :
        n < (date_of i).day →
        (record { year = d.year; month = d.month; day = d.day - n } ≡ date_of (j - n)) × (j - n ≤ last)
    tag_back_in_month a = earlier_in_month j n d e g k.1 back (rw here a)

    module _ (a : (date_of i).day ≤ n) where
      pub tag_back_in_year :
          (s : ℕ) (x : Bool) → 1 < d.month → x ≡ is_leap d.year → s ≡ days_in_month x (d.month - 1) →
          (record { year = d.year; month = d.month - 1; day = s + d.day - n } ≡ date_of (j - n)) × (j - n ≤ last)
      tag_back_in_year = earlier_in_year j n d e g k.1 back (rw here a)

      pub tag_back_over_year :
          d.month ≤ 1 →
          (record { year = d.year - 1; month = 12; day = 31 + d.day - n } ≡ date_of (j - n)) × (j - n ≤ last)
      tag_back_over_year = earlier_over_year j n d e g k.1 back (rw here a)

-- a date with the same year and month
pub same_month :
    (j i r x : ℕ) (d : Date) → (d ≡ date_of j) × (j ≤ last) → j ≡ i →
    record { year = d.year; month = d.month; day = x } ≡ date_of r →
    ((date_of r).year ≡ (date_of i).year) × ((date_of r).month ≡ (date_of i).month)
same_month j i r x d k v e =
    let z = k.0 ∙ ap date_of v in (
      ap (λ (y : Date). y.year) (sym e) ∙ ap (λ (y : Date). y.year) z,
      ap (λ (y : Date). y.month) (sym e) ∙ ap (λ (y : Date). y.month) z,
    )

-- date_near: n is the number of days between
pub near_later : (t i n r : ℕ) (d : Date) → t ≤ i → n ≡ i - t → r ≡ t + n → d ≡ date_of r → d ≡ date_of i
near_later t i n r d h q p e = let k : r ≡ i = omega arith in e ∙ ap date_of k

pub near_earlier : (t i n r : ℕ) (d : Date) → i < t → n ≡ t - i → r ≡ t - n → d ≡ date_of r → d ≡ date_of i
near_earlier t i n r d h q p e = let k : r ≡ i = omega arith in e ∙ ap date_of k

pub ruleset near_rules = (near_later, near_earlier)

pub ruleset later_rules = (day_of_fits, year_of_fits, tag_in_month, tag_in_year, tag_over_year)

pub ruleset earlier_rules =
    (tag_year_some, tag_month_most, enough_days, tag_back_in_month, tag_back_in_year, tag_back_over_year)
