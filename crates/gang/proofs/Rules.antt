-- What the proofs of the walks cite, with premises in the form in which they stand there.
--   stand_rules     a step on from the day at which a walk stands
--   weekday_rules   the days to the next weekday and back to the last
--   vor_rules, zurueck_rules  the next weekday forward and back, and a walk from there: the days between are weekend
--   count_rules     a turn and a return of the count from weekday to weekday. x is what it has to give, and the
--                   invariant says that the count from here on gives it
-- Assumes nothing.
use Prim.Native.Nat.{ℕ, ◌+◌, ◌-◌, ◌≤◌, ◌<◌}
use mathlib.Core.Bool.{Bool, true, false}
use mathlib.Core.Path.{◌≡◌, refl, sym, ap, ◌∙◌}
use native.Mathlib.Omega.{arith}
use native.Mathlib.Decide.{dec_lt}
use borrow.Author.Tests.{eq-eqb, ne_eqb, lt-ltb, le-ltb}
use Rattle.std.specs.Prelude.{None}
use Rattle.zaehlung.specs.Walk.{last, bit, add, sub, between}
use Rattle.zaehlung.proofs.Laws.{between_later}
use Rattle.zaehlung.proofs.Skips.{ShutOn, ShutBack, leap_open, leap_shut, leap_edge, back_open, back_shut, back_edge}
use Rattle.zaehlung.proofs.Skips.{more_open, more_shut, more_none}
use Rattle.datum.specs.Calendar.{weekday}
use Rattle.werktag.specs.declared.HolidayCalendar.{HolidayCalendar}
use Rattle.werktag.specs.Werktag.{is_werktag}
use Rattle.werktag.proofs.Reasons.{weekend_shut}
use Rattle.werktag.proofs.Rules.{day_to}
use Rattle.gang.specs.Stand.{to_weekday, from_weekday}

pub weekend_closed : (cal : HolidayCalendar) (i w : ℕ) → w ≡ weekday i → 4 < w → false ≡ is_werktag cal i
weekend_closed cal i w p h = sym (weekend_shut cal i (omega arith))

-- the day of a month is small enough for a week more
pub ruleset stand_rules = (day_to)

-- to_weekday, from_weekday
pub to_next : (w : ℕ) → w < 4 → 1 ≡ to_weekday w
unfolding to_weekday
to_next w h = rw (lt-ltb w 4 h)

pub to_monday : (w : ℕ) → 4 ≤ w → 7 - w ≡ to_weekday w
unfolding to_weekday
to_monday w h = rw (le-ltb w 4 h)

pub from_monday : (w : ℕ) → w ≡ 0 → 3 ≡ from_weekday w
unfolding from_weekday
from_monday w e = rw (eq-eqb w 0 e)

pub from_sunday : (w : ℕ) → (w ≡ 0 → ⊥) → w ≡ 6 → 2 ≡ from_weekday w
unfolding from_weekday
from_sunday w n e = rw (ne_eqb w 0 n, eq-eqb w 6 e)

pub from_last : (w : ℕ) → (w ≡ 0 → ⊥) → (w ≡ 6 → ⊥) → 1 ≡ from_weekday w
unfolding from_weekday
from_last w n m = rw (ne_eqb w 0 n, ne_eqb w 6 m)

pub ruleset weekday_rules = (to_next, to_monday)

-- where the days lead: to a weekday, over a weekend
module _ (i w k : ℕ) (p : w ≡ weekday i) where
  module _ (e : k ≡ to_weekday w) where
    pub on_weekday_lem : weekday (i + k) < 5
    on_weekday_lem =
        elim (dec_lt w 4) [
          | yes h ↦ omega (arith, to_next w h)
          | no h ↦ omega (arith, to_monday w (omega arith))
        ]

    pub over : (cal : HolidayCalendar) → ShutOn (is_werktag cal) i (k - 1)
    over cal j a b =
        elim (dec_lt w 4) [
          | yes h ↦ absurd (omega (arith, to_next w h))
          | no h ↦ weekend_shut cal (i + j) (omega (arith, to_monday w (omega arith)))
        ]

  module _ (e : k ≡ from_weekday w) where
    pub back_weekday : k ≤ i → weekday (i - k) < 5
    back_weekday l =
        elim (dec_lt w 1) [
          | yes h ↦ omega (arith, from_monday w (omega arith))
          | no h ↦ elim (dec_lt 5 w) [
            | yes g ↦ omega (arith, from_sunday w (λ q. omega arith) (omega arith))
            | no g ↦ omega (arith, from_last w (λ q. omega arith) (λ q. omega arith))
          ]
        ]

    over_back : (cal : HolidayCalendar) → ShutBack (is_werktag cal) i (k - 1)
    over_back cal j a b l =
        elim (dec_lt w 1) [
          | yes h ↦ weekend_shut cal (i - j) (omega (arith, from_monday w (omega arith)))
          | no h ↦ elim (dec_lt 5 w) [
            | yes g ↦ weekend_shut cal (i - j) (omega (arith, from_sunday w (λ q. omega arith) (omega arith)))
            | no g ↦ absurd (omega (arith, from_last w (λ q. omega arith) (λ q. omega arith)))
          ]
        ]

-- the next weekday in a direction: i' is that day, k days on or back
module _ (i i' w k : ℕ) (p : w ≡ weekday i) where
  module _ (e : k ≡ to_weekday w) where
    pub vor_weekday : i' ≡ i + k → weekday i' < 5
    vor_weekday q = omega (arith, ap weekday q, on_weekday_lem i w k p e)

    pub vor_edge :
        i ≤ last → last - i < k → (cal : HolidayCalendar) (m : ℕ) → 0 < m → add (is_werktag cal) i m ≡ None
    vor_edge h g cal m o = sym (leap_edge (is_werktag cal) _ i m k refl o h g (over i w k p e cal))

    pub vor_turn :
        1 ≤ k → i + k ≤ last → i' ≡ i + k → (cal : HolidayCalendar) (m : ℕ) → 0 < m →
        add (is_werktag cal) i m ≡ add (is_werktag cal) i' (m - bit (is_werktag cal i'))
    vor_turn a h q cal m o = go (is_werktag cal i') refl
      where
        go : (b : Bool) → is_werktag cal i' ≡ b → add (is_werktag cal) i m ≡ add (is_werktag cal) i' (m - bit b)
        go true t =
            leap_open (is_werktag cal) _ i m k refl o a (over i w k p e cal) h (ap (is_werktag cal) (sym q) ∙ t)
            ∙ ap (λ (y : ℕ). add (is_werktag cal) y (m - 1)) (sym q)
        go false t =
            let z : m ≡ m - 0 = omega arith in
            leap_shut (is_werktag cal) _ i m k refl o a (over i w k p e cal) h (ap (is_werktag cal) (sym q) ∙ t)
            ∙ ap (λ (y : ℕ). add (is_werktag cal) y m) (sym q) ∙ ap (add (is_werktag cal) i') z

  module _ (e : k ≡ from_weekday w) where
    pub zurueck_weekday : k ≤ i → i' ≡ i - k → weekday i' < 5
    zurueck_weekday h q = omega (arith, ap weekday q, back_weekday i w k p e h)

    pub zurueck_edge : i < k → (cal : HolidayCalendar) (m : ℕ) → 0 < m → sub (is_werktag cal) i m ≡ None
    zurueck_edge h cal m o = sym (back_edge (is_werktag cal) _ i m k refl o h (over_back i w k p e cal))

    pub zurueck_turn :
        1 ≤ k → k ≤ i → i' ≡ i - k → (cal : HolidayCalendar) (m : ℕ) → 0 < m →
        sub (is_werktag cal) i m ≡ sub (is_werktag cal) i' (m - bit (is_werktag cal i'))
    zurueck_turn a h q cal m o = go (is_werktag cal i') refl
      where
        go : (b : Bool) → is_werktag cal i' ≡ b → sub (is_werktag cal) i m ≡ sub (is_werktag cal) i' (m - bit b)
        go true t =
            back_open (is_werktag cal) _ i m k refl o a (over_back i w k p e cal) h (ap (is_werktag cal) (sym q) ∙ t)
            ∙ ap (λ (y : ℕ). sub (is_werktag cal) y (m - 1)) (sym q)
        go false t =
            let z : m ≡ m - 0 = omega arith in
            back_shut (is_werktag cal) _ i m k refl o a (over_back i w k p e cal) h (ap (is_werktag cal) (sym q) ∙ t)
            ∙ ap (λ (y : ℕ). sub (is_werktag cal) y m) (sym q) ∙ ap (sub (is_werktag cal) i') z

-- the count from weekday to weekday: i' is the day that is reached, r what the day test returned there
module _ (cal : HolidayCalendar) (i i' w k : ℕ) (p : w ≡ weekday i) (o : 1 ≤ k) (e : k ≡ to_weekday w)
    (x c b : ℕ) (inv : x ≡ c + between (is_werktag cal) i b) where
  abbrev test : ℕ → Bool
  test = is_werktag cal

  pub count_done : i ≤ b → b - i < k → c ≡ x
  count_done h g = more_none test x c i b k inv (over i w k p e cal) h g

  module _ (h : i ≤ b) (g : k ≤ b - i) (q : i' ≡ i + k) (r : Bool) (f : r ≡ test i') where
    at_day : (y : Bool) → r ≡ y → test (i + k) ≡ y
    at_day y t = ap test (sym q) ∙ sym f ∙ t

    pub count_open : r ≡ true → x ≡ c + 1 + between test i' b
    count_open t =
        more_open test x c i b k inv (over i w k p e cal) o (omega arith) (at_day true t)
        ∙ ap (λ (y : ℕ). c + 1 + between test y b) (sym q)

    pub count_shut : r ≡ false → x ≡ c + between test i' b
    count_shut t =
        more_shut test x c i b k inv (over i w k p e cal) o (omega arith) (at_day false t)
        ∙ ap (λ (y : ℕ). c + between test y b) (sym q)

pub count_end : (w : ℕ → Bool) (c d i x : ℕ) → x ≡ c + between w i d → d ≤ i → c ≡ x
count_end w c d i x inv h = omega (arith, between_later w i d h)
