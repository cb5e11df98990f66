-- Reading and writing a question undo each other.
--   question_back   a question whose fields fit is read back from its 32 bytes
--   bytes_back      any 32 bytes are those of the question that is read from them: nothing of them is left out
-- Assumes nothing.
use Prim.Native.Nat.{ℕ, ◌<◌}
use mathlib.Core.List.{List, [], ◌∷◌, ◌++◌}
use mathlib.Core.Path.{◌≡◌, sym, ap, ◌∙◌}
use native.Mathlib.Omega.{arith}
use lib.ListN.{length, get_or}
use lib.Seq.{take_all}
use Rattle.std.specs.Prelude.{All}
use Rattle.zahlen.specs.LittleEndian.{le8}
use Rattle.zahlen.specs.TwosComplement.{bits_of}
use Rattle.zahlen.specs.Places.{i64_at}
use Rattle.zahlen.proofs.RoundTrip.{u16_placed, u32_placed, i64_placed, u16_bytes, u32_bytes, i64_again}
use Rattle.zahlen.proofs.RoundTrip.{Below, all_below, below_from, from, from_is}
use Rattle.fragesatz.specs.declared.Question.{Question}
use Rattle.fragesatz.specs.Record.{question_of, question_bytes}
use Rattle.fragesatz.specs.ReadBack.{Fits}

-- where a field stands does not matter: its bytes are there by computation
pub question_back : (q : Question) → Fits q → question_of (question_bytes q) ≡ q
unfolding question_of question_bytes
question_back q f =
    rw (
      u32_placed [] [] q.count f.count_lt,
      u32_placed [] [] q.count2 f.count2_lt,
      u16_placed [] [] q.transmission.year f.transmission_fits.year_lt,
      u16_placed [] [] q.anchor.year f.anchor_fits.year_lt,
      i64_placed [] [] q.seconds f.seconds_fit,
      u32_placed [] [] q.nanos f.nanos_lt,
    )

glue : {a b c d : List ℕ} → a ≡ b → c ≡ d → a ++ c ≡ b ++ d
glue p q = cc

module _ (l : List ℕ) (p : All (λ b. b < 256) l) where
  pub bytes_back : length l ≡ 32 → question_bytes (question_of l) ≡ l
  unfolding question_of question_bytes
  bytes_back h =
      ap (λ (r : List ℕ). get_or l 0 0 ∷ get_or l 1 0 ∷ get_or l 2 0 ∷ get_or l 3 0 ∷ r)
      (glue (u32_bytes _ _ _ _ (below 4 4))
      (glue (u32_bytes _ _ _ _ (below 4 8))
      (glue (date 14 (u16_bytes _ _ (below 2 12)))
      (glue (date 18 (u16_bytes _ _ (below 2 16)))
      (glue seconds (u32_bytes _ _ _ _ (below 4 28)))))))
      ∙ from_is 32 0 l (omega arith)
      ∙ take_all 32 l (omega arith)
    where
      below : (k i : ℕ) → Below (from k i l)
      below = below_from (all_below l p)

      -- a year's bytes, and behind them month and day
      date : (i : ℕ) {a b : List ℕ} → a ≡ b → a ++ from 2 i l ≡ b ++ from 2 i l
      date i = ap (λ (r : List ℕ). r ++ from 2 i l)

      seconds : le8 (bits_of (i64_at l 20)) ≡ from 8 20 l
      seconds = i64_again l 20 p (omega arith) ∙ sym (from_is 8 20 l (omega arith))
