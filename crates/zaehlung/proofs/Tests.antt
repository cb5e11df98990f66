-- Two tests.
--   and_left, and_right   both hold: so does either
--   and_yes, and_no       beside a test that holds the other decides; beside one that fails both fail
--   agree a b = whether they say the same, as a test that computes; agree_is, then they are the same
-- Assumes nothing.
use mathlib.Core.Bool.{Bool, true, false, not, ◌&&◌}
use mathlib.Core.Path.{◌≡◌, refl, sym, subst}
use lib.Dec.{T}

pub and_left : (a b : Bool) → (a && b) ≡ true → a ≡ true
and_left true b t = refl
and_left false b t = t

pub and_right : (a b : Bool) → (a && b) ≡ true → b ≡ true
and_right true b t = t
and_right false b t = absurd (subst T (sym t) tt)

pub and_yes : (a : Bool) → (a && true) ≡ a
and_yes true = refl
and_yes false = refl

pub and_no : (a : Bool) → (a && false) ≡ false
and_no true = refl
and_no false = refl

unfoldable pub agree : Bool → Bool → Bool
agree true b = b
agree false b = not b

pub agree_is : (a b : Bool) → agree a b ≡ true → a ≡ b
unfolding agree
agree_is true true t = refl
agree_is true false t = sym t
agree_is false true t = t
agree_is false false t = refl
