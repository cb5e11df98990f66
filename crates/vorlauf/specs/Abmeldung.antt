-- The lead time of a deregistration by the grid operator, and its verdict.
--   same_bytes a b             = whether two byte strings are the same
--   zq7                        = the three bytes "ZQ7"
--   by_mark eeg                = the window for an EEG mark, where the reason is an ordinary one
--   fuer_of reason eeg         = the window for a reason and an EEG mark
--   shape_of v                 = the shape of a window, where one applies
--   with_shape s f             = what f gives for a shape, or NoShape
--   abmeldung_check_of w v t a = the verdict of a window with its margin, or why there is none, for any test w of a
--                                day
-- Source: document 01, abmeldung.rs; GPKE Teil 2, Kap. 2.5.2, SD 'Lieferende von NB an LF' Nr. 1.
use Rattle.std.specs.Prelude.{ℕ, Bool, true, false, ◌&&◌, cond, List, [], ◌∷◌, ℤ, eqb, Option, Some, None, Result, Err}
use Rattle.std.specs.Prelude.{ok_or}
use Rattle.vorlauf.specs.declared.VorlaufShape.{VorlaufShape}
use Rattle.vorlauf.specs.declared.VorlaufShape.TheVariants.{TagVorDemLetztenWerktagVor, LatestMonateBefore}
use Rattle.vorlauf.specs.declared.abmeldung.Eeg.{Eeg}
use Rattle.vorlauf.specs.declared.abmeldung.Eeg.TheVariants.{Nein, Ja, Unbekannt}
use Rattle.vorlauf.specs.declared.abmeldung.AbmeldungVorlauf.{AbmeldungVorlauf}
use Rattle.vorlauf.specs.declared.abmeldung.AbmeldungVorlauf.TheVariants.{TagVorDemLetztenWerktag, EinMonat}
use Rattle.vorlauf.specs.declared.abmeldung.AbmeldungVorlauf.TheVariants.{Unbestimmt, AnPruefschritt120}
use Rattle.vorlauf.specs.declared.VorlaufVerdict.{VorlaufVerdict}
use Rattle.vorlauf.specs.declared.abmeldung.NoVerdict.{NoVerdict}
use Rattle.vorlauf.specs.declared.abmeldung.NoVerdict.TheVariants.{NoShape, Outside}
use Rattle.vorlauf.specs.Margin.{judgement_of}

unfoldable pub same_bytes : List ℕ → List ℕ → Bool
same_bytes [] [] = true
same_bytes [] (y ∷ ys) = false
same_bytes (x ∷ xs) [] = false
same_bytes (x ∷ xs) (y ∷ ys) = eqb x y && same_bytes xs ys

-- 'only the three bytes "ZQ7" are the deactivation reason; "zq7", "ZQ7 " and an empty reason are ordinary'
abbrev pub zq7 : List ℕ
zq7 = 90 ∷ 81 ∷ 55 ∷ []

-- abmeldung.rs, 'The windows': EEG-Marktlokationen und Tranchen von EEG-Marktlokationen '1 Monat vor dem
-- Zuordnungsende', every other 'Tag vor dem letzten WT vor dem Zuordnungsende'
abbrev pub by_mark : Eeg → AbmeldungVorlauf
by_mark Nein = TagVorDemLetztenWerktag
by_mark Ja = EinMonat
by_mark Unbekannt = Unbestimmt

unfoldable pub fuer_of : List ℕ → Eeg → AbmeldungVorlauf
fuer_of reason eeg = cond (same_bytes reason zq7) AnPruefschritt120 (by_mark eeg)

-- 'ZQ7, or an unknown EEG mark, has no shape, which the answer of `check` says.'
abbrev pub shape_of : AbmeldungVorlauf → Option VorlaufShape
shape_of TagVorDemLetztenWerktag = Some TagVorDemLetztenWerktagVor
shape_of EinMonat = Some (LatestMonateBefore 1)
shape_of Unbestimmt = None
shape_of AnPruefschritt120 = None

abbrev pub with_shape :
    Option VorlaufShape → (VorlaufShape → Result (VorlaufVerdict × ℤ) NoVerdict) → Result (VorlaufVerdict × ℤ) NoVerdict
with_shape (Some s) f = f s
with_shape None f = Err NoShape

-- the verdict of a window's shape with its margin, or why there is none
unfoldable pub abmeldung_check_of : (ℕ → Bool) → AbmeldungVorlauf → ℕ → ℕ → Result (VorlaufVerdict × ℤ) NoVerdict
abmeldung_check_of w v t a = with_shape (shape_of v) (λ s. ok_or (judgement_of w s t a) Outside)
