-- The tolerance of the CONTRL: version one, `contrl_due_at`, with both windows of a year, and version two,
-- `contrl_due_at_change`, with the one of a change day d. o is the due instant before the tolerance, y its year. The
-- statements stand in specs/.
--   inside_shown shown_inside    o lies in a window exactly if the clock shows it
--   shut               it lies in no window that ends by its Berlin day or begins after it
--   days               the days of both windows, side by side
--   on dates           their dates, which every year has
--   apart              it lies in one at most
--   by_spring by_autumn by_none    the tolerance of a year
--   spring_only autumn_only        outside of the one window it has the other alone
--   refused_when when_refused      version two is refused exactly if the due instant is outside, or a day beside the
--                      change day
--   april october      both windows, with a change day of 1 April and of 1 October
--   agree              both versions agree exactly if o is not in the other window
--   agree_inside       so they agree in the change day's window
--   stays_in_other     in the other window version two leaves it as it is
--   in_spring in_autumn untouched  by version one it is due at the end of its window, and in neither window it stays
--   refused            version one is refused exactly if the due instant is outside
--   moved stays        what is due in the change day's window is due when that ends, and all else when it is
--   on_change_day      so what is due on the change day is moved
--   days_away          and what is due on another day stays, but for the evening before
use Prim.Native.Nat.{ℕ, suc, ◌+◌, ◌-◌, ◌≤◌, ◌<◌}
use mathlib.Core.Bool.{true, false, not, ◌&&◌}
use mathlib.Core.Logic.{◌↔◌, ◌⊎◌, inl, inr}
use mathlib.Core.Path.{◌≡◌, refl, sym, ap, ◌∙◌}
use native.Mathlib.Omega.{arith}
use native.Mathlib.Decide.{dec_le, dec_lt}
use lib.Dec.{ltb}
use borrow.Author.Tests.{lt-ltb, le-ltb, le-leb}
use Rattle.std.specs.Prelude.{Option, Some, None, Result, Ok, Err}
use Rattle.std.proofs.lemmas.Grind.{common_steps}
use Rattle.zaehlung.specs.Walk.{last, day_after}
use Rattle.zaehlung.proofs.Every.{split}
use Rattle.datum.specs.declared.Date.{Date}
use Rattle.datum.specs.Calendar.{is_leap, days_in_month, is_date}
use Rattle.datum.proofs.Dates.{valid_is, index_below, index_date}
use Rattle.berlin.specs.declared.Moment.{Moment}
use Rattle.berlin.specs.Berlin.{day_start, moment_of, seconds_of, is_before, in_limits, berlin_clock}
use Rattle.berlin.specs.Berlin.{berlin_date, berlin_at, on_resolved, berlin_midnight}
use Rattle.berlin.specs.Inside.{Proper, ProperClock}
use Rattle.berlin.proofs.SummerTime.{starts}
use Rattle.berlin.proofs.LocalTime.{clock_from, clock_to}
use Rattle.berlin.proofs.Proper.{proper_clock, limits_hold, never_absent, midnight_earliest, day_le}
use Rattle.berlin.proofs.Zeit.{before_midnight, before_clock}
use Rattle.fristen.specs.declared.ContrlAnlass.{ContrlAnlass}
use Rattle.fristen.specs.declared.NoDue.{NoDue}
use Rattle.fristen.specs.declared.NoDue.TheVariants.{Outside}
use Rattle.fristen.specs.Fristen.{window_opens, receipt_day, contrl_seconds, before_tolerance, instant_later}
use Rattle.fristen.specs.Fristen.{day_on, in_window, toleranz, toleranz_in, formatumstellung_toleranz}
use Rattle.fristen.specs.Fristen.{tolerated_due, contrl_due_at, contrl_due_at_change}
use Rattle.fristen.specs.Windows.{ShowsWindow, spring_window, autumn_window, OtherDaysAreOutside}
use Rattle.fristen.specs.Windows.{EveryYearHasWindowDays, WindowsAreApart, ToleranceMovesSpring, ToleranceMovesAutumn}
use Rattle.fristen.specs.Windows.{ToleranceLeavesOthers}
use Rattle.fristen.specs.VersionOne.{due_year, VersionOneRefusesIfOutside}
use Rattle.fristen.specs.ChangeDay.{ChangeWindowDueMoves, ChangeWindowElseStays, ChangeDayDueMoves, OtherDayDueStays}

opens_proper : ProperClock window_opens
opens_proper = proper_clock _ (omega arith) (omega arith)

module _ (a b : ℕ) (h : a ≤ last) (k : b ≤ last) (o : Moment) where
  abbrev t : ℕ
  t = berlin_clock (seconds_of o)

  -- 18:00 is never absent
  opened :
      (r : Option Moment) → berlin_at a window_opens ≡ r →
      on_resolved false r (λ v. not (is_before o v)) ≡ not (ltb t (day_start a + 64800))
  opened (Some v) e =
      ap not (before_clock a window_opens o v h opens_proper refl (λ x y. omega arith) e)
  opened None e = absurd (never_absent a window_opens None h opens_proper (omega arith) (sym e) refl)

  by_clock : in_window a b o ≡ (not (ltb t (day_start a + 64800)) && ltb t (day_start b))
  unfolding in_window
  by_clock = rw (opened (berlin_at a window_opens) refl, before_midnight b o k)

  pub shown_inside : ShowsWindow a b o → in_window a b o ≡ true
  shown_inside s = by_clock ∙ rw (le-ltb t (day_start a + 64800) s.0, lt-ltb t (day_start b) s.1) refl

  not_shown : (ShowsWindow a b o → ⊥) → in_window a b o ≡ false
  not_shown n =
      by_clock
      ∙ elim (dec_lt t (day_start a + 64800)) [
        | yes y ↦ rw (lt-ltb t (day_start a + 64800) y) refl
        | no y ↦
            elim (dec_lt t (day_start b)) [
              | yes z ↦ absurd (n (omega arith, z))
              | no z ↦ rw (le-ltb t (day_start a + 64800) (omega arith), le-ltb t (day_start b) (omega arith)) refl
            ]
      ]

  pub inside_shown : in_window a b o ≡ true → ShowsWindow a b o
  inside_shown e =
      elim (dec_lt t (day_start a + 64800)) [
        | yes y ↦ absurd (cc (e, not_shown (λ s. omega arith)))
        | no y ↦
            elim (dec_lt t (day_start b)) [
              | yes z ↦ (omega arith, z)
              | no z ↦ absurd (cc (e, not_shown (λ s. omega arith)))
            ]
      ]

-- it lies in no window that ends by its Berlin day or begins after it
pub shut : OtherDaysAreOutside
shut a b h k o p (inl q) = let c = clock_from (seconds_of o) p.from in not_shown a b h k o (λ s. omega (arith, s.1))
shut a b h k o p (inr q) = let c = clock_from (seconds_of o) p.from in not_shown a b h k o (λ s. omega (arith, s.0))

abbrev pub on : ℕ → ℕ → ℕ → Date
on y m n = record { year = y; month = m; day = n }

-- dates of every year of the calendar
pub dates :
    (y : ℕ) → 1996 ≤ y → y ≤ 2899 →
    (is_date (on y 3 31) ≡ true) × (is_date (on y 4 1) ≡ true) × (is_date (on y 9 30) ≡ true)
    × (is_date (on y 10 1) ≡ true) × (is_date (on y 10 2) ≡ true)
unfolding is_date days_in_month
dates y h k =
    let a = le-leb 1996 y h in
    let b = le-leb y 2899 k in
    (rw (a, b), rw (a, b), rw (a, b), rw (a, b), rw (a, b))

pub days : EveryYearHasWindowDays
days y h k =
    let s = starts (is_leap y) in
    record {
      march = omega arith;
      april = omega arith;
      between = omega arith;
      september = omega arith;
      october = omega arith;
      final = index_below _ (valid_is _ (dates y h k).4);
    }

pub apart : WindowsAreApart
apart y h k o e f =
    let g = days y h k in
    let a = inside_shown (day_on y 3 31) (day_on y 4 2) (omega (arith, g)) (omega (arith, g)) o e in
    let b = inside_shown (day_on y 9 30) (day_on y 10 2) (omega (arith, g)) g.final o f in
    omega (arith, g, a.1, b.0)

-- 2 April 00:00 lies in no autumn window
spring_ends : (y : ℕ) → 1996 ≤ y → y ≤ 2899 → autumn_window y (berlin_midnight (day_on y 4 2)) ≡ false
spring_ends y h k =
    let g = days y h k in
    let e = midnight_earliest (day_on y 4 2) (omega (arith, g)) in
    not_shown (day_on y 9 30) (day_on y 10 2) (omega (arith, g)) g.final (berlin_midnight (day_on y 4 2))
    (λ s. omega (arith, g, s.0, e.shown))

pub by_spring : ToleranceMovesSpring
unfolding toleranz_in
by_spring y h k o e = rw (e, spring_ends y h k)

pub by_autumn : ToleranceMovesAutumn
unfolding toleranz_in
by_autumn y h k o e = grind (arith, common_steps, apart y h k o)

pub by_none : ToleranceLeavesOthers
unfolding toleranz_in
by_none y h k o e f = rw (e, f)

module _ (y : ℕ) (h : 1996 ≤ y) (k : y ≤ 2899) (o : Moment) where
  pub spring_only : autumn_window y o ≡ false → toleranz_in y o ≡ toleranz (day_on y 3 31) (day_on y 4 2) o
  spring_only f =
      split (spring_window y o) (λ e. by_spring y h k o e ∙ rw e refl) (λ e. by_none y h k o e f ∙ rw e refl)

  pub autumn_only : spring_window y o ≡ false → toleranz_in y o ≡ toleranz (day_on y 9 30) (day_on y 10 2) o
  autumn_only e =
      split (autumn_window y o) (λ f. by_autumn y h k o f ∙ rw f refl) (λ f. by_none y h k o e f ∙ rw f refl)

-- the two windows of version one, that of the change day d from b to c, and the other from v to w
pub record TwoWindows (y : ℕ) (o : Moment) (d b c v w : ℕ) : Type 0 where
  pub eve : d ≡ suc b
  pub end : c ≡ suc d
  pub end_inside : c ≤ last
  pub from_inside : v ≤ last
  pub to_inside : w ≤ last
  pub both : in_window b c o ≡ true → in_window v w o ≡ true → ⊥
  pub this : in_window v w o ≡ false → toleranz_in y o ≡ toleranz b c o
  pub other : in_window v w o ≡ true → toleranz_in y o ≡ berlin_midnight w

not_due :
    (m : Moment) (a : ContrlAnlass) (t : Moment → Moment) → tolerated_due t (before_tolerance m a) ≡ Err Outside →
    before_tolerance m a ≡ Err Outside
not_due m a t e = grind (arith, common_steps)

pub refused : VersionOneRefusesIfOutside
unfolding contrl_due_at
refused m a = (λ e. not_due m a formatumstellung_toleranz e, λ e. rw e refl)

module _ (m : Moment) (a : ContrlAnlass) (d : ℕ) where
  by_change :
      1 ≤ d → d < last → contrl_due_at_change m a d ≡ tolerated_due (toleranz (d - 1) (suc d)) (before_tolerance m a)
  unfolding contrl_due_at_change day_after
  by_change h k = grind (arith, common_steps, lt-ltb d last k)

  no_change : (d ≡ 0) ⊎ (last ≤ d) → contrl_due_at_change m a d ≡ Err Outside
  unfolding contrl_due_at_change day_after
  no_change (inl e) = rw e
  no_change (inr h) = grind (arith, common_steps, le-ltb d last h)

  pub refused_when :
      contrl_due_at_change m a d ≡ Err Outside → (before_tolerance m a ≡ Err Outside) ⊎ ((d ≡ 0) ⊎ (last ≤ d))
  refused_when e =
      elim (dec_le 1 d) [
        | no x ↦ inr (inl (omega arith))
        | yes x ↦
            elim (dec_lt d last) [
              | no z ↦ inr (inr (omega arith))
              | yes z ↦ inl (not_due m a (toleranz (d - 1) (suc d)) (sym (by_change x z) ∙ e))
            ]
      ]

  pub when_refused :
      (before_tolerance m a ≡ Err Outside) ⊎ ((d ≡ 0) ⊎ (last ≤ d)) → contrl_due_at_change m a d ≡ Err Outside
  when_refused (inr f) = no_change f
  when_refused (inl e) =
      elim (dec_le 1 d) [
        | no x ↦ no_change (inl (omega arith))
        | yes x ↦
            elim (dec_lt d last) [
              | no z ↦ no_change (inr (omega arith))
              | yes z ↦ by_change x z ∙ rw e refl
            ]
      ]

-- o is the due instant before the tolerance
module _ (m : Moment) (p : Proper m) (a : ContrlAnlass) (o : Moment) (e : before_tolerance m a ≡ Ok o) where
  later_inside : (n : ℕ) → instant_later m n ≡ Ok o → Proper o
  unfolding instant_later
  later_inside n q =
      let f : in_limits (seconds_of m + n) ≡ true = grind (arith, common_steps) in
      let g : moment_of (seconds_of m + n) m.nanos ≡ o = grind (arith, common_steps) in
      let l = limits_hold (seconds_of m + n) f in
      rw (sym g)
      (record {
        second_lt = omega arith;
        nanos_le = p.nanos_le;
        from = omega (arith, l.0);
        to = omega (arith, l.1);
      })

  inside : Proper o
  inside = later_inside (contrl_seconds (receipt_day m) a) e

  clock_inside : (day_start 0 ≤ berlin_clock (seconds_of o)) × (berlin_clock (seconds_of o) < day_start 330180)
  clock_inside = (clock_from (seconds_of o) inside.from, clock_to (seconds_of o) inside.from inside.to)

  abbrev y : ℕ
  y = due_year o

  from : 1996 ≤ y
  from = (index_date (berlin_date o) (day_le o inside)).0.from

  to : y ≤ 2899
  to = (index_date (berlin_date o) (day_le o inside)).0.to

  version_one : contrl_due_at m a ≡ Ok (toleranz_in y o)
  unfolding contrl_due_at formatumstellung_toleranz
  version_one = rw e refl

  -- no instant of a window is its end
  not_the_end :
      (b c : ℕ) (r : Result Moment NoDue) → b ≤ last → c ≤ last → in_window b c o ≡ true → r ≡ Ok o →
      r ≡ Ok (berlin_midnight c) → ⊥
  not_the_end b c r h k q f g =
      let s = inside_shown b c h k o q in
      let v = midnight_earliest c k in
      let z : o ≡ berlin_midnight c = cc in
      omega (arith, s.1, v.shown, ap (λ (x : Moment). berlin_clock (seconds_of x)) z)

  module _ {d b c v w : ℕ} (g : TwoWindows y o d b c v w) where
    by_window : contrl_due_at_change m a d ≡ Ok (toleranz b c o)
    by_window =
        let z : d - 1 ≡ b = omega (arith, g) in
        by_change m a d (omega (arith, g)) (omega (arith, g)) ∙ rw (e, z, sym g.end) refl

    pub stays_in_other : in_window v w o ≡ true → contrl_due_at_change m a d ≡ Ok o
    stays_in_other f = by_window ∙ split (in_window b c o) (λ s. absurd (g.both s f)) (λ s. rw s refl)

    pub agree : (contrl_due_at_change m a d ≡ contrl_due_at m a) ↔ (in_window v w o ≡ false)
    agree = (
      λ r. split (in_window v w o)
          (λ f.
          absurd (not_the_end v w (contrl_due_at m a) g.from_inside g.to_inside f (sym r ∙ stays_in_other f)
          (version_one ∙ ap Ok (g.other f))))
          (λ f. f),
      λ f. by_window ∙ sym (version_one ∙ ap Ok (g.this f)),
    )

    pub agree_inside : in_window b c o ≡ true → contrl_due_at_change m a d ≡ contrl_due_at m a
    agree_inside s = agree.1 (split (in_window v w o) (λ f. absurd (g.both s f)) (λ f. f))

  pub april : TwoWindows y o (day_on y 4 1) (day_on y 3 31) (day_on y 4 2) (day_on y 9 30) (day_on y 10 2)
  april =
      let g = days y from to in
      record {
        eve = g.march;
        end = g.april;
        end_inside = omega (arith, g);
        from_inside = omega (arith, g);
        to_inside = g.final;
        both = apart y from to o;
        this = spring_only y from to o;
        other = by_autumn y from to o;
      }

  pub october : TwoWindows y o (day_on y 10 1) (day_on y 9 30) (day_on y 10 2) (day_on y 3 31) (day_on y 4 2)
  october =
      let g = days y from to in
      record {
        eve = g.september;
        end = g.october;
        end_inside = g.final;
        from_inside = omega (arith, g);
        to_inside = omega (arith, g);
        both = λ f s. apart y from to o s f;
        this = autumn_only y from to o;
        other = by_spring y from to o;
      }

  pub in_spring : spring_window y o ≡ true → contrl_due_at m a ≡ Ok (berlin_midnight (day_on y 4 2))
  in_spring s = version_one ∙ ap Ok (by_spring y from to o s)

  pub in_autumn : autumn_window y o ≡ true → contrl_due_at m a ≡ Ok (berlin_midnight (day_on y 10 2))
  in_autumn f = version_one ∙ ap Ok (by_autumn y from to o f)

  pub untouched : spring_window y o ≡ false → autumn_window y o ≡ false → contrl_due_at m a ≡ Ok o
  untouched s f = version_one ∙ ap Ok (by_none y from to o s f)

pub moved : ChangeWindowDueMoves
moved m a o p e d h k s = by_change m a d h k ∙ rw (e, shown_inside (d - 1) (suc d) (omega arith) k o s) refl

pub stays : ChangeWindowElseStays
stays m a o p e d h k n = by_change m a d h k ∙ rw (e, not_shown (d - 1) (suc d) (omega arith) k o n) refl

pub on_change_day : ChangeDayDueMoves
on_change_day m a o p e d h k q =
    let c = clock_inside m p a o e in
    moved m a o p e d h k (omega arith, omega arith)

pub days_away : OtherDayDueStays
days_away m a o p e d h k (inl q) =
    let c = clock_inside m p a o e in
    stays m a o p e d h k (λ s. omega (arith, s.0))
days_away m a o p e d h k (inr q) =
    let c = clock_inside m p a o e in
    stays m a o p e d h k (λ s. omega (arith, s.1))
