-- Verdicts and spans by cases, for any step and any test of a date.
--   day_cases      what holds of the verdict on a step's day, by the outcomes of the step
--   upto_cases     what holds of 'x up to a day, else y'; under_cases of 'x before a day, else y'
--   from_cases     what holds of the span from a step's day on; both_cases of that between the days of two steps
--   late_not       a TooLate is not Ok; refused_not a refusal; early_not a TooEarly
--   Accepts v A    unless v is refused, it is Ok exactly if A holds
--   day_accepts    so for the verdict on a step's day, if it is so for each day
--   upto_ok        `not_after` is Ok  exactly if  it is that day or before
--   window_ok      'too early before a day, then `not_after`' is Ok  exactly if  it is neither before nor after
--   Spans p v a    unless p leaves the calendar, v accepts the anchor a as p does
--   from_spans     so for the span from a step's day on; both_spans for that between the days of two
--   from_begins    the span from a step's day on begins there, and nowhere else; both_begins that between two at the
--                  first's
--   late_day       a TooLate on a step's day is that of a day
--   late_upto      `not_after` is TooLate: it is after that day, and names the step's; late_window the same of a window
-- Source: document 01, 'The span of anchors': the words of demand 3.
-- Assumes nothing.
use Prim.Native.Nat.{ℕ, ◌≤◌, ◌<◌}
use mathlib.Core.Bool.{Bool, true, false, cond}
use mathlib.Core.Logic.{◌↔◌, ◌≢◌}
use mathlib.Core.Path.{◌≡◌, refl, ap}
use native.Mathlib.Omega.{arith}
use lib.Dec.{leb, ltb}
use borrow.Author.Tests.{leb-true, leb-false, ltb-true, ltb-false}
use Rattle.zaehlung.specs.Walk.{on_step, between}
use Rattle.vorlauf.specs.declared.VorlaufVerdict.{VorlaufVerdict}
use Rattle.vorlauf.specs.declared.VorlaufVerdict.TheVariants.{Ok, TooLate, TooEarly}
use Rattle.vorlauf.specs.declared.Span.{Span}
use Rattle.vorlauf.specs.declared.Span.TheVariants.{From, Both, Empty}
use Rattle.vorlauf.specs.Verdict.{not_after}
use Rattle.vorlauf.specs.Span.{span_from, span_between, LiesIn, Begins}
use Rattle.std.specs.Prelude.{Option, Some, None}

pub day_cases :
    (P : Option VorlaufVerdict → Type 0) (s : Option ℕ) (f : ℕ → Option VorlaufVerdict) →
    (s ≡ None → P None) → ((d : ℕ) → s ≡ Some d → P (f d)) → P (on_step None s f)
day_cases P (Some d) f o g = g d refl
day_cases P None f o g = o refl

test_cases : {A : Type 0} (P : A → Type 0) (b : Bool) (x y : A) → (b ≡ true → P x) → (b ≡ false → P y) → P (cond b x y)
test_cases P true x y f g = f refl
test_cases P false x y f g = g refl

pub upto_cases :
    {A : Type 0} (P : A → Type 0) (t c : ℕ) (x y : A) → (t ≤ c → P x) → (c < t → P y) → P (cond (leb t c) x y)
upto_cases P t c x y f g = test_cases P (leb t c) x y (λ h. f (leb-true t c h)) (λ h. g (leb-false t c h))

pub under_cases :
    {A : Type 0} (P : A → Type 0) (t c : ℕ) (x y : A) → (t < c → P x) → (c ≤ t → P y) → P (cond (ltb t c) x y)
under_cases P t c x y f g = test_cases P (ltb t c) x y (λ h. f (ltb-true t c h)) (λ h. g (ltb-false t c h))

pub from_cases :
    (P : Option Span → Type 0) (s : Option ℕ) → P None → ((f : ℕ) → s ≡ Some f → P (Some (From f))) → P (span_from s)
from_cases P (Some f) o g = g f refl
from_cases P None o g = o

pub both_cases :
    (P : Option Span → Type 0) (s u : Option ℕ) → P None →
    ((f l : ℕ) → s ≡ Some f → u ≡ Some l → f ≤ l → P (Some (Both f l))) →
    ((f l : ℕ) → s ≡ Some f → u ≡ Some l → l < f → P (Some Empty)) → P (span_between s u)
both_cases P (Some f) (Some l) o g h = upto_cases P f l (Some (Both f l)) (Some Empty) (g f l refl refl)
    (h f l refl refl)
both_cases P (Some f) None o g h = o
both_cases P None u o g h = o

-- what is not Ok
pub early_not : {b : ℕ} → (Some (TooEarly b)) ≢ (Some Ok)
early_not e = let z : ◌≡◌ {A = ℕ} 0 1 = cc in omega arith

pub late_not : {b y : ℕ} → (Some (TooLate b y)) ≢ (Some Ok)
late_not e = let z : ◌≡◌ {A = ℕ} 0 1 = cc in omega arith

pub refused_not : None ≢ (Some Ok)
refused_not e = let z : ◌≡◌ {A = ℕ} 0 1 = cc in omega arith

named_not : (s : Option ℕ) (b : ℕ) → on_step None s (λ y. (Some (TooLate b y))) ≢ (Some Ok)
named_not s b = day_cases (λ v. v ≢ (Some Ok)) s (λ y. (Some (TooLate b y))) (λ _. refused_not) (λ _ _. late_not)

abbrev pub Accepts : Option VorlaufVerdict → Type 0 → Type 0
Accepts v A = v ≢ None → (v ≡ (Some Ok)) ↔ A

module _ {A : Type 0} where
  neither : (v : Option VorlaufVerdict) → v ≢ (Some Ok) → (A → ⊥) → (v ≡ (Some Ok)) ↔ A
  neither v n f = (λ p. absurd (n p), λ x. absurd (f x))

  pub day_accepts :
      (s : Option ℕ) (f : ℕ → Option VorlaufVerdict) → ((d : ℕ) → s ≡ Some d → Accepts (f d) A) → Accepts
      (on_step None s f) A
  day_accepts s f g = day_cases (λ v. Accepts v A) s f (λ _ h. absurd (h refl)) g

  pub upto_ok : (w : ℕ → Bool) (t c : ℕ) (f : Option ℕ) → (t ≤ c) ↔ A → (not_after w t c f ≡ (Some Ok)) ↔ A
  unfolding not_after
  upto_ok w t c f i =
      upto_cases (λ v. (v ≡ (Some Ok)) ↔ A) t c (Some Ok) (on_step None f (λ y. (Some (TooLate (between w c t) y))))
      (λ h. (λ _. i.0 h, λ _. refl))
      (λ h. neither _ (named_not f (between w c t)) (λ x. omega (arith, i.1 x)))

pub window_ok :
    {A B : Type 0} (w : ℕ → Bool) (t o c b : ℕ) (f : Option ℕ) → (t ≤ c) ↔ A → (o ≤ t) ↔ B →
    (cond (ltb t o) (Some (TooEarly b)) (not_after w t c f) ≡ (Some Ok)) ↔ (A × B)
window_ok {A} {B} w t o c b f i j =
    under_cases (λ v. (v ≡ (Some Ok)) ↔ (A × B)) t o (Some (TooEarly b)) (not_after w t c f)
    (λ h. neither (Some (TooEarly b)) early_not (λ x. omega (arith, j.1 x.1)))
    (λ h. upto_ok w t c f (λ g. (i.0 g, j.0 h), λ x. i.1 x.0))

abbrev pub Spans : Option Span → Option VorlaufVerdict → ℕ → Type 0
Spans p v a = p ≢ None → Accepts v (LiesIn p a)

pub from_spans :
    (s : Option ℕ) (v : Option VorlaufVerdict) (a : ℕ) → ((f : ℕ) → s ≡ Some f → Accepts v (f ≤ a)) → Spans
    (span_from s) v a
from_spans s v a g = from_cases (λ p. Spans p v a) s (λ h. absurd (h refl)) (λ f q _. g f q)

pub both_spans :
    (s u : Option ℕ) (v : Option VorlaufVerdict) (a : ℕ) →
    ((f l : ℕ) → s ≡ Some f → u ≡ Some l → Accepts v ((f ≤ a) × (a ≤ l))) → Spans (span_between s u) v a
both_spans s u v a g =
    both_cases (λ p. Spans p v a) s u
    (λ h. absurd (h refl))
    (λ f l p q _ _. g f l p q)
    (λ f l p q m _ h. (λ e. let x = (g f l p q h).0 e in omega arith, λ x. absurd x))

pub from_begins : (s : Option ℕ) (y : ℕ) → Begins (span_from s) y ↔ (s ≡ Some y)
from_begins (Some f) y = (λ e. ap Some e, λ e. cc)
from_begins None y = (λ e. absurd e, λ e. let z : ◌≡◌ {A = ℕ} 0 1 = cc in absurd (omega arith))

pub both_begins : (s u : Option ℕ) (y : ℕ) → Begins (span_between s u) y → s ≡ Some y
both_begins s u y =
    both_cases (λ p. Begins p y → s ≡ Some y) s u (λ e. absurd e) (λ f l p q _ e. cc) (λ f l p q _ e. absurd e)

-- what a TooLate says of a verdict's parts, to any conclusion R
module _ {R : Type 0} (b y : ℕ) where
  pub late_day :
      (s : Option ℕ) (f : ℕ → Option VorlaufVerdict) → ((d : ℕ) → s ≡ Some d → f d ≡ (Some (TooLate b y)) → R) →
      on_step None s f ≡ (Some (TooLate b y)) → R
  late_day s f = day_cases (λ v. v ≡ (Some (TooLate b y)) → R) s f (λ _ e. let z : ◌≡◌ {A = ℕ} 0 1 = cc in absurd
      (omega arith))

  pub late_upto :
      (w : ℕ → Bool) (t c : ℕ) (f : Option ℕ) → (c < t → f ≡ Some y → between w c t ≡ b → R) →
      not_after w t c f ≡ (Some (TooLate b y)) → R
  unfolding not_after
  late_upto w t c f g =
      upto_cases (λ v. v ≡ (Some (TooLate b y)) → R) t c (Some Ok) _
      (λ _ e. let z : ◌≡◌ {A = ℕ} 0 1 = cc in absurd (omega arith))
      (λ h. late_day f (λ z. (Some (TooLate (between w c t) z))) (λ d p e. g h (cc) (cc)))

  pub late_window :
      (w : ℕ → Bool) (t r o c x : ℕ) (f : Option ℕ) → (c < r → f ≡ Some y → between w c r ≡ b → R) →
      cond (ltb t o) (Some (TooEarly x)) (not_after w r c f) ≡ (Some (TooLate b y)) → R
  late_window w t r o c x f g =
      under_cases (λ v. v ≡ (Some (TooLate b y)) → R) t o (Some (TooEarly x)) (not_after w r c f)
      (λ _ e. let z : ◌≡◌ {A = ℕ} 0 1 = cc in absurd (omega arith))
      (λ _. late_upto w r c f g)
