-- The day test of the list, year by year: a day of a year is a Werktag exactly if it is a weekday and none of the
-- year's holidays, each a day of the year. What is computed is computed of a year, not of its days.
--   year_for k   = the numbers of the year 1996 + k without a walk over the years
--   year_is     year_numbers k ≡ year_for k
--   open_in y r  = whether day r of the year y is a Werktag: a weekday, the holidays struck out
--   open_is     is_werktag_in BdewMaKo k r ≡ open_in (year_numbers k) r
--   index_is    is_werktag cal (year_start k + r) ≡ is_werktag_in cal k r
--   Usual y     what holds of a year's numbers, and that no weekday stands twice among its holidays
--   usual       it holds of every year of the calendar
-- for k < 904 and r < year_len k.
-- Source: the definitions of Werktag and Year.
-- Assumes nothing.
use Prim.Native.Nat.{ℕ, ◌+◌, ◌-◌, ◌%◌, ◌≤◌, ◌<◌}
use mathlib.Core.Bool.{Bool, true, false, ◌&&◌, ◌||◌}
use mathlib.Core.List.{◌∷◌, ◌++◌}
use mathlib.Core.Path.{◌≡◌, refl, sym, ap, ◌∙◌, subst}
use native.Mathlib.Omega.{arith}
use lib.Dec.{T, eqb, leb}
use lib.IntN.{pos, neg_ℤ, ◌+ℤ◌}
use borrow.Author.Tests.{eqb-true, eqb-false, eq-eqb, ne_eqb, leb-true, le-leb}
use Rattle.zaehlung.specs.Walk.{bit}
use Rattle.zaehlung.specs.Lists.{any, strikes}
use Rattle.zaehlung.specs.Blocks.{start, at}
use Rattle.zaehlung.proofs.Tests.{and_left, and_right}
use Rattle.zaehlung.proofs.Count.{bit_small}
use Rattle.zaehlung.proofs.BlockLaws.{at_is}
use Rattle.zaehlung.proofs.Every.{run, run_at, split}
use Rattle.zaehlung.proofs.Search.{any_append}
use Rattle.zaehlung.proofs.Striking.{apart, strikes_is}
use Rattle.datum.specs.Calendar.{is_leap, year_len, year_start, year_of, days_in_month, month_of, date_in, weekday}
use Rattle.datum.proofs.Years.{start_none}
use Rattle.datum.proofs.Dates.{year_len_at}
use Rattle.datum.proofs.Rules.{start_is}
use Rattle.datum.proofs.Signed.{sub_pos}
use Rattle.werktag.specs.declared.HolidayCalendar.{HolidayCalendar}
use Rattle.werktag.specs.declared.HolidayCalendar.TheVariants.{BdewMaKo}
use Rattle.werktag.specs.Easter.{easter_sunday, easter_index}
use Rattle.werktag.specs.Werktag.{eq_z, is_fixed, is_buss_und_bettag, is_easter_feast, is_werktag_in, is_werktag}
use Rattle.werktag.proofs.Easter.{below_7, easter_in, easter_is, easter_between, easter_on_sunday, first_of, weekday_in}
use Rattle.jahre.specs.YearNumbers.{YearNumbers}
use Rattle.jahre.specs.Year.{year_numbers, on_weekday, fixed_in, bettag_in, himmelfahrt_in, feasts_with, holidays}

abbrev pub year_for : ℕ → YearNumbers
year_for k = let y = 1996 + k in record { first = first_of k; leaps = bit (is_leap y); easter = easter_in y }

pub year_is : (k : ℕ) → year_numbers k ≡ year_for k
unfolding year_numbers
year_is k =
    let e : easter_index (1996 + k) - year_start k ≡ easter_in (1996 + k) = omega (arith, easter_is k) in
    rw (e, start_is k)

unfoldable pub open_in : YearNumbers → ℕ → Bool
open_in y = strikes (on_weekday y.first) (holidays y)

-- the fixed days, and the week of Buß- und Bettag: by date and by day of the year, one; computed for a common and a
-- leap year
bit_same : (a b : Bool) → bit a ≡ bit b → a ≡ b
bit_same true true e = refl
bit_same true false e = absurd (omega arith)
bit_same false true e = absurd (omega arith)
bit_same false false e = refl

abbrev buss_week : ℕ → ℕ → Bool
buss_week m d = eqb m 11 && (leb 16 d && leb d 22)

abbrev week_in : Bool → ℕ → Bool
week_in l r = leb (319 + bit l) r && leb r (325 + bit l)

agree : Bool → ℕ → Bool
agree l r =
    let m = month_of l r in
    eqb (bit (is_fixed m.0 (m.1 + 1))) (bit (any (eqb r) (fixed_in (bit l))))
    && eqb (bit (buss_week m.0 (m.1 + 1))) (bit (week_in l r))

all_agree : (l : Bool) → run (agree l) (365 + bit l) 0 ≡ true
unfolding run agree at start days_in_month is_fixed any
all_agree true = refl
all_agree false = refl

module _ (l : Bool) (r : ℕ) (h : r < 365 + bit l) where
  agrees : agree l r ≡ true
  agrees = run_at (agree l) (365 + bit l) 0 (all_agree l) r (omega arith) (omega arith)

  fixed_same : is_fixed (month_of l r).0 ((month_of l r).1 + 1) ≡ any (eqb r) (fixed_in (bit l))
  unfolding agree
  fixed_same = bit_same _ _ (eqb-true _ _ (and_left _ _ agrees))

  week_same : buss_week (month_of l r).0 ((month_of l r).1 + 1) ≡ week_in l r
  unfolding agree
  week_same =
      let m = month_of l r in
      let fixed : Bool = eqb (bit (is_fixed m.0 (m.1 + 1))) (bit (any (eqb r) (fixed_in (bit l)))) in
      bit_same _ _ (eqb-true _ _ (and_right fixed _ agrees))

-- the Wednesday of that week
wednesday_on : (b f r : ℕ) → r ≡ 325 + b - (f + b + 1) % 7 → (319 + b ≤ r) × (r ≤ 325 + b) × ((f + r) % 7 ≡ 2)
wednesday_on b f r e = (omega arith, omega arith, omega arith)

wednesday_is : (b f r : ℕ) → 319 + b ≤ r → r ≤ 325 + b → (f + r) % 7 ≡ 2 → r ≡ 325 + b - (f + b + 1) % 7
wednesday_is b f r h g e = omega arith

not_all : (a b c : Bool) → (a ≡ true → b ≡ true → c ≡ true → ⊥) → ((a && b) && c) ≡ false
not_all true true true n = absurd (n refl refl refl)
not_all true true false n = refl
not_all true false c n = refl
not_all false b c n = refl

and_last : (a b c d : Bool) → (a && (b && (c && d))) ≡ ((a && (b && c)) && d)
and_last true true c d = refl
and_last true false c d = refl
and_last false b c d = refl

wednesday : (l : Bool) (f r : ℕ) → (week_in l r && eqb ((f + r) % 7) 2) ≡ eqb r (bettag_in f (bit l))
wednesday l f r =
    split (eqb r (bettag_in f (bit l)))
    (λ t.
    let w = wednesday_on (bit l) f r (eqb-true r (bettag_in f (bit l)) t) in
    rw (t, le-leb (319 + bit l) r w.0, le-leb r (325 + bit l) w.1, eq-eqb ((f + r) % 7) 2 w.2))
    (λ t.
    rw t
    (not_all (leb (319 + bit l) r) (leb r (325 + bit l)) (eqb ((f + r) % 7) 2) (λ a b c.
    eqb-false r (bettag_in f (bit l)) t
    (wednesday_is (bit l) f r (leb-true (319 + bit l) r a) (leb-true r (325 + bit l) b) (eqb-true ((f + r) % 7) 2 c)))))

buss_same :
    (l : Bool) (f r : ℕ) → r < 365 + bit l →
    is_buss_und_bettag (month_of l r).0 ((month_of l r).1 + 1) ((f + r) % 7) ≡ eqb r (bettag_in f (bit l))
unfolding is_buss_und_bettag
buss_same l f r h =
    let m = month_of l r in
    and_last (eqb m.0 11) (leb 16 (m.1 + 1)) (leb (m.1 + 1) 22) (eqb ((f + r) % 7) 2)
    ∙ ap (λ (b : Bool). b && eqb ((f + r) % 7) 2) (week_same l r h)
    ∙ wednesday l f r

-- the feasts that move with Easter: a distance from it is the same in indexes and in days of the year
eqb_same : (a b c d : ℕ) → (a ≡ b → c ≡ d) → (c ≡ d → a ≡ b) → eqb a b ≡ eqb c d
eqb_same a b c d f g =
    split (eqb a b)
    (λ t. t ∙ sym (eq-eqb c d (f (eqb-true a b t))))
    (λ t. t ∙ sym (ne_eqb c d (λ q. eqb-false a b t (g q))))

-- Easter Sunday on day e of the year that begins on day s
module _ (s r e : ℕ) where
  feast_later : (o : ℕ) → eq_z (pos (s + r)) (pos (s + e) +ℤ pos o) ≡ eqb r (e + o)
  feast_later o = eqb_same (s + r) (s + e + o) r (e + o) (λ q. omega arith) (λ q. omega arith)

  feast_earlier : (o : ℕ) → o ≤ e → eq_z (pos (s + r)) (pos (s + e) +ℤ neg_ℤ (pos o)) ≡ eqb r (e - o)
  feast_earlier o h =
      rw (sub_pos (s + e) o (omega arith))
      (eqb_same (s + r) (s + e - o) r (e - o) (λ q. omega arith) (λ q. omega arith))

feast_same :
    (s r e y : ℕ) → 2 ≤ e → easter_index y ≡ s + e → is_easter_feast (s + r) y ≡ any (eqb r) (feasts_with e (e + 39))
unfolding is_easter_feast any
feast_same s r e y h q =
    let l = feast_later s r e in
    rw (q, feast_earlier s r e 2 h, l 1, l 39, l 49, l 50, l 60)

-- Christi Himmelfahrt on 1 May is in the list already
once :
    (F B A C D G H : Bool) → (H ≡ true → F ≡ true) →
    (F || (B || (A || (C || (D || (D || G)))))) ≡ (F || (B || (A || (C || (H || (D || G))))))
once true B A C D G H h = refl
once false true A C D G H h = refl
once false false true C D G H h = refl
once false false false true D G H h = refl
once false false false false D G true h = absurd (subst T (sym (h refl)) tt)
once false false false false true G false h = refl
once false false false false false G false h = refl

may_is : (l r : ℕ) → r ≡ 120 + l → any (eqb r) (fixed_in l) ≡ true
unfolding any
may_is l r q = rw (eq-eqb r (120 + l) q) (or_yes (eqb r 0) (eqb r 5) (eqb r (66 + l)))
  where
    or_yes : (a b c : Bool) → (a || (b || (c || true))) ≡ true
    or_yes true b c = refl
    or_yes false true c = refl
    or_yes false false true = refl
    or_yes false false false = refl

in_list :
    (f l e r : ℕ) →
    any (eqb r) (fixed_in l ++ (bettag_in f l ∷ feasts_with e (himmelfahrt_in l e)))
    ≡ (any (eqb r) (fixed_in l) || (eqb r (bettag_in f l) || any (eqb r) (feasts_with e (e + 39))))
unfolding any
in_list f l e r =
    any_append (eqb r) (fixed_in l) (bettag_in f l ∷ feasts_with e (himmelfahrt_in l e))
    ∙ split (eqb (e + 39) (120 + l)) twice (λ t. rw t)
  where
    twice :
        eqb (e + 39) (120 + l) ≡ true →
        (any (eqb r) (fixed_in l) || any (eqb r) (bettag_in f l ∷ feasts_with e (himmelfahrt_in l e)))
        ≡ (any (eqb r) (fixed_in l) || (eqb r (bettag_in f l) || any (eqb r) (feasts_with e (e + 39))))
    twice t =
        rw t
        (once (any (eqb r) (fixed_in l)) (eqb r (bettag_in f l)) (eqb r (e - 2)) (eqb r (e + 1)) (eqb r (e + 49))
        (eqb r (e + 50) || (eqb r (e + 60) || false)) (eqb r (e + 39))
        (λ c. may_is l r (eqb-true r (e + 39) c ∙ eqb-true (e + 39) (120 + l) t)))

-- what is computed of each year: no weekday stands twice among its holidays
once_in : ℕ → Bool
once_in k = let y = year_for k in apart (on_weekday y.first) (holidays y)

all_once : run once_in 904 0 ≡ true
unfolding run once_in easter_sunday is_leap start days_in_month apart any on_weekday holidays
all_once = refl

pub record Usual (y : YearNumbers) : Type 0 where
  pub first_to : y.first < 7
  pub leaps_to : y.leaps ≤ 1
  pub easter_from : 80 ≤ y.easter
  pub easter_to : y.easter ≤ 116
  pub on_sunday : (y.first + y.easter) % 7 ≡ 6
  pub once_each : apart (on_weekday y.first) (holidays y) ≡ true

usual_for : (k : ℕ) → k < 904 → Usual (year_for k)
unfolding once_in
usual_for k h =
    let b = easter_between (1996 + k) (omega arith) (omega arith) in
    let z : 1996 + k - 1996 ≡ k = omega arith in
    let s = ap year_start z in
    record {
      first_to = below_7 _;
      leaps_to = bit_small (is_leap (1996 + k));
      easter_from = omega (arith, easter_is k);
      easter_to = omega (arith, easter_is k);
      on_sunday =
          sym (weekday_in k (easter_in (1996 + k))) ∙ ap weekday (sym (easter_is k))
          ∙ easter_on_sunday (1996 + k) (omega arith) (omega arith);
      once_each = run_at once_in 904 0 all_once k (omega arith) (omega arith);
    }

pub usual : (k : ℕ) → k < 904 → Usual (year_numbers k)
usual k h = rw (year_is k) (usual_for k h)

open_for : (k r : ℕ) → k < 904 → r < year_len k → is_werktag_in BdewMaKo k r ≡ open_in (year_for k) r
unfolding open_in on_weekday holidays date_in
open_for k r h g =
    let l : Bool = is_leap (1996 + k) in
    let f : ℕ = first_of k in
    let e : ℕ = easter_in (1996 + k) in
    let b : r < 365 + bit l = omega (arith, year_len_at (1996 + k) k refl) in
    let u = (usual_for k h).easter_from in
    rw (
      weekday_in k r,
      fixed_same l r b,
      buss_same l f r b,
      feast_same (year_start k) r e (1996 + k) (omega arith) (easter_is k),
      strikes_is (on_weekday f) (fixed_in (bit l)
          ++ (bettag_in f (bit l) ∷ feasts_with e (himmelfahrt_in (bit l) e))) r,
      in_list f (bit l) e r,
    )

pub open_is : (k r : ℕ) → k < 904 → r < year_len k → is_werktag_in BdewMaKo k r ≡ open_in (year_numbers k) r
open_is k r h g = rw (year_is k) (open_for k r h g)

pub index_is :
    (cal : HolidayCalendar) (k r : ℕ) → k < 904 → r < year_len k →
    is_werktag cal (year_start k + r) ≡ is_werktag_in cal k r
unfolding is_werktag
index_is cal k r h g =
    let q : year_of (year_start k + r) ≡ (k, r) =
    at_is year_len 903 0 k (year_start k + r) r (omega arith) (omega arith) (omega (arith, start_none)) g in
    rw q
