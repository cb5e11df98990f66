-- Codes: how a call's code is read, whatever list of entries it is a place in, counted from 0.
--   UnknownCodeIsRefused Entry   a code past the list is refused with 2
--   KnownCodeIsTaken Entry       any other has an entry, and the call goes on with it
use Rattle.std.specs.Prelude.{ℕ, ◌<◌, ◌≤◌, ◌≡◌, List, length, slice_get, IsSomeAnd, Result, Err}
use Rattle.antwortsatz.specs.declared.Answer.{Answer}
use Rattle.antwortsatz.specs.declared.Refusal.{Refusal}
use Rattle.antwortsatz.specs.declared.Refusal.TheVariants.{UnknownCode}
use Rattle.antworten.specs.Reading.{on_code}

abbrev pub UnknownCodeIsRefused : Type 0 → Type 0
UnknownCodeIsRefused Entry =
    (list : List Entry) (code : ℕ) (answer : Entry → Result Answer Refusal) → length list ≤ code →
    on_code list code answer ≡ Err UnknownCode

abbrev pub KnownCodeIsTaken : Type 0 → Type 0
KnownCodeIsTaken Entry =
    (list : List Entry) (code : ℕ) (answer : Entry → Result Answer Refusal) → code < length list →
    IsSomeAnd (slice_get list code) (λ entry. on_code list code answer ≡ answer entry)
