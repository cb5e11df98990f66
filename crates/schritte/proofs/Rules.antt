-- What the proofs of the steps cite, for any test w of a day, with premises in the form in which they stand there.
--   edge_rules      the returns of `day_after` and `day_before`
--   next_rules      `next_werktag`: r is what the day test returned
--   left_rules      `after_today`
--   on_*            `nth_on_or_after`
--   after_*         `nth_werktag_after`
--   w_*             `day_after_werktage`: m is what `after_today` gave, s what `add_werktage` gave
-- Source: the definitions of Walk in zaehlung.
-- Assumes nothing.
use Prim.Native.Nat.{ℕ, zero, suc, ◌+◌, ◌-◌, ◌≤◌, ◌<◌}
use mathlib.Core.Bool.{Bool, true, false}
use mathlib.Core.Path.{◌≡◌, refl, sym, ap, ◌∙◌}
use native.Mathlib.Omega.{arith}
use native.Mathlib.Numerals.{add-one}
use borrow.Author.Tests.{lt-ltb, le-ltb}
use Rattle.zaehlung.specs.Walk.{last, bit, on_step, day_after, day_before, add, next, W}
use Rattle.zaehlung.proofs.Laws.{w_none, add_none}
use Rattle.zaehlung.proofs.OnOrAfter.{next_open, next_shut, w_open, w_shut}
use Rattle.datum.specs.Calendar.{weekday}
use Rattle.werktag.specs.declared.HolidayCalendar.{HolidayCalendar}
use Rattle.werktag.specs.Werktag.{is_werktag}
use Rattle.gang.specs.Stand.{to_weekday}
use Rattle.gang.proofs.Rules.{vor_edge, vor_turn}
use Rattle.std.specs.Prelude.{Option, Some, None}

pub after_edge : (d : ℕ) → last ≤ d → None ≡ day_after d
unfolding day_after
after_edge d h = rw (le-ltb d last h)

pub after_day : (d e : ℕ) → d < last → e ≡ d + 1 → Some e ≡ day_after d
unfolding day_after
after_day d e h q = rw (lt-ltb d last h, ← add-one d) (ap Some q)

pub before_edge : (d : ℕ) → d ≤ 0 → None ≡ day_before d
before_edge zero h = refl
before_edge (suc d) h = absurd (omega arith)

pub before_day : (d e : ℕ) → 0 < d → e ≡ d - 1 → Some e ≡ day_before d
before_day d e h q = let p : suc (d - 1) ≡ d = omega arith in ap Some q ∙ ap day_before p

pub ruleset edge_rules = (after_edge, after_day, before_edge, before_day)

module _ (w : ℕ → Bool) (i : ℕ) where
  pub next_here : (r : Bool) → r ≡ w i → r ≡ true → Some i ≡ next w i
  next_here r p q = sym (next_open w i (sym p ∙ q))

  pub next_later : (r : Bool) (x : Option ℕ) → r ≡ w i → r ≡ false → x ≡ add w i 1 → x ≡ next w i
  next_later r x p q u = u ∙ sym (next_shut w i (sym p ∙ q))

  pub w_here : (n : ℕ) → n ≡ 0 → Some i ≡ W w i n
  w_here n z = sym (ap (W w i) z ∙ w_none w i)

  module _ (h : i ≤ last) (n m : ℕ) (l : 1 ≤ n) (p : m ≡ n - bit (w i)) where
    by_add : W w i n ≡ on_step None (add w i m) day_after
    by_add = go (w i) refl
      where
        go : (b : Bool) → w i ≡ b → W w i n ≡ on_step None (add w i m) day_after
        go true q =
            let z = ap bit q in
            let k : m ≡ n - 1 = omega arith in
            rw k (w_open w i n h l q)
        go false q =
            let z = ap bit q in
            let k : m ≡ n = omega arith in
            rw k (w_shut w i n h l q)

    pub w_gone : (s : Option ℕ) → s ≡ add w i m → s ≡ None → None ≡ W w i n
    w_gone s u q = sym (by_add ∙ ap (λ (x : Option ℕ). on_step None x day_after) (sym u ∙ q))

    pub w_is : (s : Option ℕ) (v : ℕ) (x : Option ℕ) → s ≡ add w i m → s ≡ Some v → x ≡ day_after v → x ≡ W w i n
    w_is s v x u q r = r ∙ sym (by_add ∙ ap (λ (y : Option ℕ). on_step None y day_after) (sym u ∙ q))

pub one_fewer : (n : ℕ) (b r : Bool) → r ≡ b → r ≡ true → n - 1 ≡ n - bit b
one_fewer n b r p q = ap (λ (x : Bool). n - bit x) (sym q ∙ p)

pub as_many : (n : ℕ) (b r : Bool) → r ≡ b → r ≡ false → n ≡ n - bit b
as_many n b r p q = let z = ap bit (sym q ∙ p) in omega arith

-- nth_on_or_after: m is what `after_today` gave, s what the walk did
module _ (w : ℕ → Bool) (i n m : ℕ) (p : m ≡ n - bit (w i)) where
  pub on_today : m ≡ 0 → Some i ≡ add w i (n - bit (w i))
  on_today z = sym (add_none w i) ∙ ap (add w i) (sym z ∙ p)

-- nth_werktag_after: v is the weekday of the day d, k the days to the next weekday
module _ (cal : HolidayCalendar) (d n : ℕ) where
  abbrev test : ℕ → Bool
  test = is_werktag cal

  pub after_none : n ≡ 0 → Some d ≡ add test d n
  after_none z = sym (add_none test d) ∙ ap (add test d) (sym z)

  module _ (v k : ℕ) (p : v ≡ weekday d) (e : k ≡ to_weekday v) (o : 1 ≤ k) (l : 0 < n) (h : d ≤ last) where
    pub after_edge_day : last - d < k → None ≡ add test d n
    after_edge_day g = sym (vor_edge d 0 v k p e h g cal n l)

    pub after_weekday :
        (f : ℕ) (r : Option ℕ) → k ≤ last - d → f ≡ d + k → r ≡ add test f (n - bit (test f)) → r ≡ add test d n
    after_weekday f r g z u = u ∙ sym (vor_turn d f v k p e o (omega arith) z cal n l)

pub ruleset left_rules = (one_fewer, as_many)

pub ruleset next_rules = (next_here, next_later)
