-- Instants are compared by their seconds, and within a second by their nanoseconds.
--   full_second   an instant is before one without nanoseconds exactly if its second is before that one's
--   day_less day_more second_less second_more second_same   the first part in which two instants differ decides: the
--                 statements of specs/Parts
use Prim.Native.Nat.{◌<◌}
use mathlib.Core.Bool.{true, false}
use mathlib.Core.Path.{◌≡◌, sym, ◌∙◌}
use native.Mathlib.Omega.{arith}
use native.Mathlib.Decide.{dec_lt}
use lib.Dec.{ltb}
use borrow.Author.Tests.{lt-ltb, le-ltb, eq-eqb, ne_eqb}
use Rattle.berlin.specs.declared.Moment.{Moment}
use Rattle.berlin.specs.Berlin.{seconds_of, is_before}
use Rattle.berlin.specs.Parts.{EarlierDayIsBefore, LaterDayIsNotBefore, EarlierSecondIsBefore, LaterSecondIsNotBefore}
use Rattle.berlin.specs.Parts.{NanosDecideInSecond}

module _ (a b : Moment) where
  earlier : seconds_of a < seconds_of b → true ≡ is_before a b
  unfolding is_before
  earlier h = rw (lt-ltb (seconds_of a) (seconds_of b) h)

  not_earlier : seconds_of b < seconds_of a → false ≡ is_before a b
  unfolding is_before
  not_earlier h =
      rw (le-ltb (seconds_of a) (seconds_of b) (omega arith), ne_eqb (seconds_of a) (seconds_of b) (λ e. omega arith))

  same_second : seconds_of a ≡ seconds_of b → ltb a.nanos b.nanos ≡ is_before a b
  unfolding is_before
  same_second h = rw (le-ltb (seconds_of a) (seconds_of b) (omega arith), eq-eqb (seconds_of a) (seconds_of b) h)

  pub full_second : b.nanos ≡ 0 → is_before a b ≡ ltb (seconds_of a) (seconds_of b)
  full_second n =
      elim (dec_lt (seconds_of a) (seconds_of b)) [
        | yes y ↦ sym (earlier y) ∙ sym (lt-ltb (seconds_of a) (seconds_of b) y)
        | no y ↦
            sym (elim (dec_lt (seconds_of b) (seconds_of a)) [
              | yes z ↦ not_earlier z
              | no z ↦ sym (le-ltb a.nanos b.nanos (omega arith)) ∙ same_second (omega arith)
            ]) ∙ sym (le-ltb (seconds_of a) (seconds_of b) (omega arith))
      ]

pub day_less : EarlierDayIsBefore
day_less a b p q h = sym (earlier a b (omega arith))

pub day_more : LaterDayIsNotBefore
day_more a b p q h = sym (not_earlier a b (omega arith))

pub second_less : EarlierSecondIsBefore
second_less a b p q e h = sym (earlier a b (omega arith))

pub second_more : LaterSecondIsNotBefore
second_more a b p q e h = sym (not_earlier a b (omega arith))

pub second_same : NanosDecideInSecond
second_same a b p q e h = sym (same_second a b (omega arith))
