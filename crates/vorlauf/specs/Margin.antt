-- The margin of a transmission day t for an anchor a, in calendar days, for any test w of a day: how many are left, or,
-- below zero, how many it is too late.
--   margin_of w s t a    = the margin of a shape; None where one of its two days leaves the calendar
--   judgement_of w s t a = the verdict of a shape with its margin
-- Source: document 02, F-6: 'the last permitted transmission day (the date beyond which the Rust's `check` calls a
-- transmission too late; for the window the one that `latest` gives) minus the transmission day; 8 also if the former
-- leaves the calendar. For `EarliestWerktageAfter(n)` the number is the anchor minus `add_werktage`(transmission day,
-- n), under Ok too.'
use Rattle.std.specs.Prelude.{ℕ, Bool, ℤ, pos, ◌-ℤ◌, Option, Some, None}
use Rattle.std.specs.Option.{option_zip}
use Rattle.zaehlung.specs.Walk.{on_step}
use Rattle.vorlauf.specs.declared.VorlaufShape.{VorlaufShape}
use Rattle.vorlauf.specs.declared.VorlaufVerdict.{VorlaufVerdict}
use Rattle.vorlauf.specs.Verdict.{closes, reaches, check_of}

-- `closes` is the last permitted transmission day and `reaches` the transmission day, but for `EarliestWerktageAfter`,
-- where they are the anchor and the n-th Werktag after the transmission day
unfoldable pub margin_of : (ℕ → Bool) → VorlaufShape → ℕ → ℕ → Option ℤ
unfolding closes reaches
margin_of w s t a = on_step None (closes w s a) (λ c. on_step None (reaches w s t) (λ r. Some (pos c -ℤ pos r)))

unfoldable pub judgement_of : (ℕ → Bool) → VorlaufShape → ℕ → ℕ → Option (VorlaufVerdict × ℤ)
unfolding margin_of check_of closes reaches
judgement_of w s t a = option_zip (check_of w s t a) (margin_of w s t a)
