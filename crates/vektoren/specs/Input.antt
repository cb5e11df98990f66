-- What is read of an input of stored lines. A line end is 10.
--   still_to_come known block from to = the bytes to come where the input's are known: those of the block from one
--                                       place to another, and then the input's
--   IsUnended l                       = no line end is in l
--   ReplaysLine old new case          = the case is that of the line with which the bytes to come begin: there are
--                                       none; the line is equal; it is not; no line end comes before the end of the
--                                       input. They lose the line, old and new being what they were and are
use Rattle.std.specs.Prelude.{◌≢◌, ℕ, ◌<◌, ◌^◌, ◌-◌, List, [], ◌∷◌, ◌++◌, length, slice_range, Option, Some, None, All}
use Rattle.std.specs.Io.KnownBytes.{Consumes, IsAtEnd, prepend_known}
use Rattle.wiedergabe.specs.declared.Replayed.{Replayed}
use Rattle.wiedergabe.specs.declared.Replayed.TheVariants.{Equal, Different, Unreadable}
use Rattle.vektoren.specs.Line.{IsEqualLine}

abbrev pub still_to_come : Option (List ℕ) → List ℕ → ℕ → ℕ → Option (List ℕ)
still_to_come known block from to = prepend_known (slice_range block from to) known

abbrev pub IsUnended : List ℕ → Type 0
IsUnended l = All (λ b. b ≢ 10) l

abbrev pub ReplaysLine : Option (List ℕ) → Option (List ℕ) → Option Replayed → Type 0
ReplaysLine old new None = IsAtEnd old
ReplaysLine old new (Some Equal) = (l : List ℕ) × IsUnended l × Consumes old new (l ++ 10 ∷ []) × IsEqualLine l
ReplaysLine old new (Some Different) = (l : List ℕ) × IsUnended l × Consumes old new (l ++ 10 ∷ []) × ¬ (IsEqualLine l)
ReplaysLine old new (Some Unreadable) =
    (l : List ℕ) × IsUnended l × Consumes old new l × (length l < 2 ^ 64 - 1 → IsAtEnd new)
