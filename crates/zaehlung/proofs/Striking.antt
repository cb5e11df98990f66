-- Days struck out, for any test p of a day: how many of the days before n pass it still.
--   apart p xs      = whether no day that passes p stands twice in the list
--   strikes_is      a day passes strikes p xs exactly if it passes p and stands not in the list
--   count_strike    one day struck out: the days that pass still, and that day where it passed, are all that passed
--   count_strikes   count (strikes p xs) n + each p xs n ≡ count p n, if the list is apart
-- Source: the definitions of Lists.
-- Assumes nothing.
use Prim.Native.Nat.{ℕ, zero, suc, ◌+◌, ◌≤◌, ◌<◌}
use mathlib.Core.Bool.{Bool, true, false, not, ◌&&◌, ◌||◌}
use mathlib.Core.List.{List, [], ◌∷◌}
use mathlib.Core.Path.{◌≡◌, refl, sym, ap, ap₂, ◌∙◌, subst}
use native.Mathlib.Omega.{arith}
use native.Mathlib.Decide.{dec_lt}
use lib.Dec.{T, eqb, ltb}
use borrow.Author.Tests.{lt-ltb, le-ltb, eq-eqb, ne_eqb, eqb-true}
use Rattle.zaehlung.specs.Walk.{bit, count}
use Rattle.zaehlung.specs.Lists.{any, strike, strikes, each}
use Rattle.zaehlung.proofs.Tests.{and_left, and_right, and_yes, and_no}
use Rattle.zaehlung.proofs.Count.{count_none, count_suc}

unfoldable pub apart : (ℕ → Bool) → List ℕ → Bool
apart p [] = true
apart p (x ∷ xs) = (not (p x) || not (any (eqb x) xs)) && apart p xs

-- a day other than x is as before, and x fails
other : (p : ℕ → Bool) (x r : ℕ) → (r ≡ x → ⊥) → strike p x r ≡ p r
other p x r h = rw (ne_eqb r x h) (and_yes (p r))

same : (p : ℕ → Bool) (x r : ℕ) → r ≡ x → strike p x r ≡ false
same p x r h = rw (eq-eqb r x h) (and_no (p r))

module _ (p : ℕ → Bool) (x : ℕ) where
  before : (n : ℕ) → x < n → bit (ltb x n && p x) ≡ bit (p x)
  before n h = rw (lt-ltb x n h)

  after : (n : ℕ) → n ≤ x → bit (ltb x n && p x) ≡ 0
  after n h = rw (le-ltb x n h)

  pub count_strike : (n : ℕ) → count (strike p x) n + bit (ltb x n && p x) ≡ count p n
  count_strike zero = omega (arith, after 0 (omega arith), count_none p, count_none (strike p x))
  count_strike (suc n) =
      let i = count_strike n in
      let a = count_suc p n in
      let b = count_suc (strike p x) n in
      elim (dec_lt x n) [
        | yes l ↦
            let o = ap bit (other p x n (λ e. omega arith)) in
            omega (arith, before n l, before (suc n) (omega arith))
        | no l ↦
            elim (dec_lt n x) [
              | yes m ↦
                  let o = ap bit (other p x n (λ e. omega arith)) in
                  omega (arith, after n (omega arith), after (suc n) m)
              | no m ↦
                  let e : n ≡ x = omega arith in
                  let o = ap bit (same p x n e) in
                  let q = ap (λ (y : ℕ). bit (p y)) e in
                  omega (arith, after n (omega arith), before (suc n) (omega arith))
            ]
      ]

and_or : (a b c : Bool) → (a && not b && not c) ≡ (a && not (b || c))
and_or true true c = refl
and_or true false c = refl
and_or false b c = refl

pub strikes_is : (p : ℕ → Bool) (xs : List ℕ) (r : ℕ) → strikes p xs r ≡ (p r && not (any (eqb r) xs))
unfolding strikes any
strikes_is p [] r = sym (and_yes (p r))
strikes_is p (x ∷ xs) r = strikes_is (strike p x) xs r ∙ and_or (p r) (eqb r x) (any (eqb r) xs)

-- tests that agree on a list
On : List ℕ → (ℕ → Bool) → (ℕ → Bool) → Type 0
On xs p q = (y : ℕ) → any (eqb y) xs ≡ true → p y ≡ q y

or_right : (a b : Bool) → b ≡ true → (a || b) ≡ true
or_right true b t = refl
or_right false b t = t

on_head : (x : ℕ) (xs : List ℕ) (p q : ℕ → Bool) → On (x ∷ xs) p q → p x ≡ q x
unfolding On any
on_head x xs p q f = f x (rw (eq-eqb x x refl))

on_tail : (x : ℕ) (xs : List ℕ) (p q : ℕ → Bool) → On (x ∷ xs) p q → On xs p q
unfolding On any
on_tail x xs p q f y t = f y (or_right (eqb y x) (any (eqb y) xs) t)

each_on : (xs : List ℕ) (p q : ℕ → Bool) (n : ℕ) → On xs p q → each p xs n ≡ each q xs n
unfolding each
each_on [] p q n f = refl
each_on (x ∷ xs) p q n f =
    let e = ap (λ (b : Bool). bit (ltb x n && b)) (on_head x xs p q f) in
    omega (arith, each_on xs p q n (on_tail x xs p q f))

apart_on : (xs : List ℕ) (p q : ℕ → Bool) → On xs p q → apart p xs ≡ apart q xs
unfolding apart
apart_on [] p q f = refl
apart_on (x ∷ xs) p q f = rw (on_head x xs p q f, apart_on xs p q (on_tail x xs p q f))

-- a day that fails, or stands not in the list, may be struck out with no effect on the list
strike_on :
    (x : ℕ) (xs : List ℕ) (p : ℕ → Bool) (b : Bool) → p x ≡ b → (not b || not (any (eqb x) xs)) ≡ true →
    On xs (strike p x) p
unfolding On
strike_on x xs p b e t y m = go (eqb y x) refl
  where
    fails : (c d : Bool) → b ≡ c → any (eqb x) xs ≡ d → y ≡ x → p y ≡ false
    fails false d u v q = rw q (e ∙ u)
    fails true false u v q =
        let k : any (eqb x) xs ≡ true = sym (ap (λ (z : ℕ). any (eqb z) xs) q) ∙ m in
        absurd (subst T (sym k ∙ v) tt)
    fails true true u v q = absurd (subst T (sym (ap₂ (λ (f g : Bool). not f || not g) (sym u) (sym v) ∙ t)) tt)

    go : (c : Bool) → eqb y x ≡ c → strike p x y ≡ p y
    go true q = let k = eqb-true y x q in same p x y k ∙ sym (fails b (any (eqb x) xs) refl refl k)
    go false q = rw q (and_yes (p y))

pub count_strikes :
    (p : ℕ → Bool) (xs : List ℕ) (n : ℕ) → apart p xs ≡ true → count (strikes p xs) n + each p xs n ≡ count p n
unfolding strikes each apart
count_strikes p [] n t = omega arith
count_strikes p (x ∷ xs) n t =
    let o = strike_on x xs p (p x) refl (and_left (not (p x) || not (any (eqb x) xs)) (apart p xs) t) in
    let s = apart_on xs (strike p x) p o ∙ and_right (not (p x) || not (any (eqb x) xs)) (apart p xs) t in
    omega (arith, count_strikes (strike p x) xs n s, each_on xs (strike p x) p n o, count_strike p x n)
