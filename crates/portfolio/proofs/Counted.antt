-- What the proof of `counts_of` cites, and what its caller knows of the lists.
--   Lengths        what is known of three lengths that a portfolio may have: `lengths_are`
--   Counted        what holds as the pairs are counted: i pairs are done, cs is what the third list holds, r entries
--       were read, and the last pair begins in the year y; so it is with no pair counted, with one more, and with all
--   of_calendar    a run is of the calendar that is asked for
--   counts_rules   what the loop of `counts_of` reads, and that its sum fits
-- Assumes nothing.
use Prim.Native.Nat.{ℕ, ◌+◌, ◌≤◌, ◌<◌}
use mathlib.Core.Bool.{Bool, true, false, ◌&&◌}
use mathlib.Core.List.{List}
use mathlib.Core.Path.{◌≡◌, refl, sym, ap, ◌∙◌}
use native.Mathlib.Omega.{arith}
use lib.Dec.{eqb, leb}
use lib.ListN.{length, get_or, drop, set, length-set}
use borrow.Author.Tests.{eqb-true, leb-true}
use mir.Syntax.{w32}
use mir.Val.{Fits}
use Rattle.std.specs.Int.{from_bool}
use Rattle.std.specs.Prelude.{Option, IfSome}
use Rattle.zaehlung.specs.Walk.{bit}
use Rattle.werktag.specs.declared.HolidayCalendar.{HolidayCalendar}
use Rattle.jahre.specs.CalendarYear.{CalendarYear}
use Rattle.zaehlung.proofs.Every.{split}
use Rattle.portfolio.specs.Inside.{run_of, year_of_run}
use Rattle.zaehlung.proofs.Tests.{and_left, and_right}
use Rattle.zaehlung.proofs.Count.{bit_small}
use Rattle.zaehlung.proofs.Filling.{Filled, fill_more, fill_all}
use Rattle.portfolio.specs.Portfolio.{is_portfolio, in_range, pair_count, pairwise, counts_of}
use Rattle.portfolio.specs.Runs.{beginning, opens, openings, runs}
use Rattle.portfolio.proofs.Pairs.{pairwise_length, pairwise_at, openings_at, openings_end}

pub record Lengths (n m k : ℕ) : Type 0 where
  pub few : n ≤ 4096
  pub days : m ≡ n
  pub places : k ≡ n

pub lengths_are : (n m k : ℕ) → is_portfolio n m k ≡ true → Lengths n m k
unfolding is_portfolio
lengths_are n m k h =
    let r = and_right (leb n 4096) (eqb m n && eqb k n) h in
    record {
      few = leb-true n 4096 (and_left (leb n 4096) (eqb m n && eqb k n) h);
      days = eqb-true m n (and_left (eqb m n) (eqb k n) r);
      places = eqb-true k n (and_right (eqb m n) (eqb k n) r);
    }

-- a run is of the year in which its pairs begin
number_of : (cal : HolidayCalendar) (a b : ℕ) → year_of_run (run_of cal a b) ≡ beginning a b
unfolding run_of beginning
number_of cal a b = split (in_range a b) (λ t. rw t) (λ t. rw t)

pub of_calendar :
    (cal : HolidayCalendar) (a b : ℕ) (r : Option CalendarYear) → r ≡ run_of cal a b →
    IfSome r (λ y. y.calendar ≡ cal)
unfolding run_of
of_calendar cal a b r e = rw e (split (in_range a b) (λ t. rw t refl) (λ t. rw t tt))

from_bit : (b : Bool) → from_bool b ≡ bit b
from_bit true = refl
from_bit false = refl

pub record Counted (w : ℕ → Bool) (xs ys cs : List ℕ) (i r y : ℕ) : Type 0 where
  pub filled : Filled (counts_of w xs ys) cs i
  pub opened : r + openings y (drop i (pairwise beginning xs ys)) ≡ runs xs ys
  pub at_most : r ≤ i
  pub lengths : Lengths (length xs) (length ys) (length cs)

module _ (w : ℕ → Bool) (xs ys cs : List ℕ) where
  pub none_counted : is_portfolio (length xs) (length ys) (length cs) ≡ true → Counted w xs ys cs 0 0 0
  unfolding runs
  none_counted h =
      record {
        filled = refl;
        opened = omega arith;
        at_most = omega arith;
        lengths = lengths_are (length xs) (length ys) (length cs) h;
      }

  module _ (i r y : ℕ) (c : Counted w xs ys cs i r y) where
    counts_length : length (counts_of w xs ys) ≡ length xs
    counts_length = pairwise_length (pair_count w) xs ys c.lengths.days

    years_length : length (pairwise beginning xs ys) ≡ length xs
    years_length = pairwise_length beginning xs ys c.lengths.days

    same_length : length cs ≡ length (counts_of w xs ys)
    same_length = c.lengths.places ∙ sym counts_length

    pub all_counted : length cs ≤ i → cs ≡ counts_of w xs ys
    all_counted h = fill_all (counts_of w xs ys) cs i same_length c.filled (omega (arith, same_length))

    pub all_opened : length cs ≤ i → r ≡ runs xs ys
    all_opened h =
        omega
        (arith, c.opened, openings_end y i (pairwise beginning xs ys) (omega (arith, years_length, c.lengths.places)))

    pub first_in : i < length cs → i < length xs
    first_in h = omega (arith, c.lengths.places)

    pub second_in : i < length cs → i < length ys
    second_in h = omega (arith, c.lengths.places, c.lengths.days)

    pub read_fits : i < length cs → (o : Bool) → Fits w32 (r + from_bool o)
    read_fits h o =
        record { fits = omega (arith, c.at_most, c.lengths.few, c.lengths.places, from_bit o, bit_small o) }

    -- one pair more: v is its count, q its run, o whether it opens it, n that as a number
    pub one_more :
        (cal : HolidayCalendar) (v n : ℕ) (q : Option CalendarYear) (o : Bool) → i < length cs →
        v ≡ pair_count w (get_or xs i 0) (get_or ys i 0) → q ≡ run_of cal (get_or xs i 0) (get_or ys i 0) →
        o ≡ opens y (beginning (get_or xs i 0) (get_or ys i 0)) → n ≡ from_bool o →
        Counted w xs ys (set cs i v) (i + 1) (r + n) (year_of_run q)
    one_more cal v n q o h e f g k =
        let l = c.lengths.days in
        let m = first_in h in
        let a = get_or xs i 0 in
        let b = get_or ys i 0 in
        let z : year_of_run q ≡ beginning a b = ap year_of_run f ∙ number_of cal a b in
        let s : n ≡ bit (opens y (beginning a b)) = k ∙ ap from_bool g ∙ from_bit (opens y (beginning a b)) in
        let at : get_or (pairwise beginning xs ys) i 0 ≡ year_of_run q = pairwise_at beginning xs ys i l m ∙ sym z in
        let t = openings_at y i (pairwise beginning xs ys) (omega (arith, years_length)) in
        record {
          filled =
              fill_more (counts_of w xs ys) cs i same_length c.filled v (omega (arith, counts_length))
              (e ∙ sym (pairwise_at (pair_count w) xs ys i l m));
          opened = omega (arith, c.opened, rw at at t, rw (sym z) at s);
          at_most = omega (arith, c.at_most, s, bit_small (opens y (beginning a b)));
          lengths =
              record { few = c.lengths.few; days = l; places = length-set cs i v ∙ c.lengths.places };
        }

pub ruleset counts_rules = (first_in, second_in, read_fits)
