-- What a stored file of questions comes to.
--   AsExpected q m n e        = for the questions q, and answers whose place held m, the call returns n and leaves e
--   IsAnswered q n e          = so it does where each byte of the answers' place is 170 before the call
--   ReplaysFile old new q e r = with the answers e that are expected the file comes to r: the call leaves them, and the
--                               file's number is returned, or not so, or the input has ended within the file. The bytes
--                               to come, which were old and are new, lose the questions, the number and the answers
--   IsHeadOf h q e            = the 8 bytes h are the head of a file: how many bytes its questions and answers have
--   IsTooLong h               = the head is that of a file that is longer than any here
--   ReplaysNext old new o     = the file with which the bytes to come begin comes to o: there is none; the call leaves
--                               what is expected; it does not; the input has ended within the file, or that is too long
use Rattle.std.specs.Prelude.{◌≡◌, ◌⊎◌, ℕ, ◌<◌, List, ◌∷◌, ◌++◌, length, replicate, Option, Some, None}
use Rattle.std.specs.Io.KnownBytes.{Consumes, IsAtEnd}
use Rattle.werktag.specs.declared.HolidayCalendar.TheVariants.{BdewMaKo}
use Rattle.werktag.specs.Werktag.{is_werktag}
use Rattle.zahlen.specs.Places.{u32_at}
use Rattle.antworten_frage.specs.Fragen.{questions_reply}
use Rattle.wiedergabe.specs.declared.Replayed.{Replayed}
use Rattle.wiedergabe.specs.declared.Replayed.TheVariants.{Equal, Different, Unreadable}

abbrev pub AsExpected : List ℕ → List ℕ → ℕ → List ℕ → Type 0
AsExpected q m n e = questions_reply (is_werktag BdewMaKo) q m ≡ (n, e)

abbrev pub IsAnswered : List ℕ → ℕ → List ℕ → Type 0
IsAnswered q n e = AsExpected q (replicate (length e) 170) n e

abbrev pub ReplaysFile : Option (List ℕ) → Option (List ℕ) → List ℕ → List ℕ → Replayed → Type 0
ReplaysFile old new q e Equal = (n : ℕ) × Consumes old new (q ++ n ∷ e) × IsAnswered q n e
ReplaysFile old new q e Different = (n : ℕ) × Consumes old new (q ++ n ∷ e) × ¬ (IsAnswered q n e)
ReplaysFile old new q e Unreadable = IsAtEnd new

abbrev pub IsHeadOf : List ℕ → List ℕ → List ℕ → Type 0
IsHeadOf h q e = (length h ≡ 8) × (u32_at h 0 ≡ length q) × (u32_at h 4 ≡ length e)

abbrev pub IsTooLong : List ℕ → Type 0
IsTooLong h = (length h ≡ 8) × ((65600 < u32_at h 0) ⊎ (65600 < u32_at h 4))

abbrev pub ReplaysNext : Option (List ℕ) → Option (List ℕ) → Option Replayed → Type 0
ReplaysNext old new None = IsAtEnd old
ReplaysNext old new (Some Equal) =
    (h : List ℕ) × (q : List ℕ) × (n : ℕ) × (e : List ℕ) × IsHeadOf h q e
    × Consumes old new (h ++ (q ++ n ∷ e)) × IsAnswered q n e
ReplaysNext old new (Some Different) =
    (h : List ℕ) × (q : List ℕ) × (n : ℕ) × (e : List ℕ) × IsHeadOf h q e
    × Consumes old new (h ++ (q ++ n ∷ e)) × ¬ (IsAnswered q n e)
ReplaysNext old new (Some Unreadable) = IsAtEnd new ⊎ ((h : List ℕ) × IsTooLong h × Consumes old new h)
