-- Signed numbers: equality as a test, and a difference against a sum.
--   eq_eq_z, ne_eq_z  what the test gives for equal and for other numbers
--   eq_z_true        equal numbers, from the test
--   from_distance   a number reached from e by its distance from e, and no other
-- Assumes nothing.
use mathlib.Core.Bool.{Bool, true, false}
use mathlib.Core.Path.{◌≡◌, refl, sym, ap, subst, ◌∙◌}
use lib.Dec.{T}
use lib.IntN.{ℤ, pos, negsuc, ◌+ℤ◌, ◌-ℤ◌, +ℤ_comm, +ℤ-neg_ℤ_cancel, -ℤ-+ℤ_cancel}
use borrow.Author.Tests.{eqb-true, eq-eqb}
use Rattle.werktag.specs.Werktag.{eq_z}

eq_z_self : (a : ℤ) → eq_z a a ≡ true
eq_z_self (pos a) = eq-eqb a a refl
eq_z_self (negsuc a) = eq-eqb a a refl

pub eq_eq_z : (a b : ℤ) → a ≡ b → eq_z a b ≡ true
eq_eq_z a b e = rw (← e) (eq_z_self a)

pub eq_z_true : (a b : ℤ) → eq_z a b ≡ true → a ≡ b
eq_z_true (pos a) (pos b) t = ap pos (eqb-true a b t)
eq_z_true (pos a) (negsuc b) t = absurd (subst T (sym t) tt)
eq_z_true (negsuc a) (pos b) t = absurd (subst T (sym t) tt)
eq_z_true (negsuc a) (negsuc b) t = ap negsuc (eqb-true a b t)

pub ne_eq_z : (a b : ℤ) → (a ≡ b → ⊥) → eq_z a b ≡ false
ne_eq_z a b n = go (eq_z a b) refl
  where
    go : (t : Bool) → eq_z a b ≡ t → eq_z a b ≡ false
    go true q = absurd (n (eq_z_true a b q))
    go false q = q

reached : (i e o : ℤ) → i -ℤ e ≡ o → i ≡ e +ℤ o
reached i e o h = sym (-ℤ-+ℤ_cancel i e) ∙ ap (λ (x : ℤ). x +ℤ e) h ∙ +ℤ_comm o e

distant : (i e o : ℤ) → i ≡ e +ℤ o → i -ℤ e ≡ o
distant i e o h = ap (λ (x : ℤ). x -ℤ e) (h ∙ +ℤ_comm e o) ∙ +ℤ-neg_ℤ_cancel o e

pub from_distance : (i e o : ℤ) → eq_z (i -ℤ e) o ≡ eq_z i (e +ℤ o)
from_distance i e o = go (eq_z (i -ℤ e) o) refl
  where
    go : (t : Bool) → eq_z (i -ℤ e) o ≡ t → eq_z (i -ℤ e) o ≡ eq_z i (e +ℤ o)
    go true q = q ∙ sym (eq_eq_z i (e +ℤ o) (reached i e o (eq_z_true (i -ℤ e) o q)))
    go false q =
        q ∙ sym (ne_eq_z i (e +ℤ o) (λ h. let c = sym q ∙ eq_eq_z (i -ℤ e) o (distant i e o h) in subst T (sym c) tt))
