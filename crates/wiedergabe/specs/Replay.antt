-- A replay, as calls that each give a case.
--   equal_of r           = how many equal cases the case r is: one or none
--   Replays step f m t e = of at most m cases the calls that begin in the state f give t, e of them equal: to the end,
--                          to one that is unreadable, or until they are m
-- Assumes nothing.
use Rattle.std.specs.Prelude.{ℕ, suc, Option, Some, None, Result, Ok}
use Rattle.std.specs.declared.io.Error.{Error}
use Rattle.wiedergabe.specs.declared.Replayed.{Replayed}
use Rattle.wiedergabe.specs.declared.Replayed.TheVariants.{Equal, Different, Unreadable}

abbrev pub equal_of : Replayed → ℕ
equal_of Equal = 1
equal_of Different = 0
equal_of Unreadable = 0

pub data Replays {S : Type 0} (step : S → Result (Option Replayed) Error → S → Type 0) : S → ℕ → ℕ → ℕ → Type 0 where
  stops : (f : S) → Replays step f 0 0 0
  ends : (f g : S) (m : ℕ) → step f (Ok None) g → Replays step f (suc m) 0 0
  breaks : (f g : S) (m : ℕ) → step f (Ok (Some Unreadable)) g → Replays step f (suc m) 1 0
  equals :
      (f g : S) (m t e : ℕ) → step f (Ok (Some Equal)) g → Replays step g m t e →
      Replays step f (suc m) (suc t) (suc e)
  differs :
      (f g : S) (m t e : ℕ) → step f (Ok (Some Different)) g → Replays step g m t e → Replays step f (suc m) (suc t) e
