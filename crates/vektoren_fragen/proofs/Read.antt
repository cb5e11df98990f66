-- What the steps of a replay come to.
--   file_read = a file that was read whole comes to what its answers are
--   next_long, next_read = so does the next file: it is too long, it was read behind its head
use Rattle.std.proofs.Common.{◌≡◌, ◌∙◌, ℕ, ◌<◌, ◌≤◌, List, [], ◌∷◌, ◌++◌, length, get_or, take}
use Rattle.std.proofs.Common.{replicate, Option, Some, Bool, true, false, IsTrue, ◌↔◌, ◌⊎◌, inl, inr}
use Rattle.std.proofs.Common.{if◌then◌else◌, refl, sym, subst, length-take-le}
use Rattle.std.specs.Io.KnownBytes.{Consumes}
use Rattle.std.proofs.KnownBytes.{Consumes-trans}
use Rattle.eingabe.proofs.Begun.{one_byte, begun, next_none, filled_as}
use Rattle.zahlen.specs.Places.{u32_at}
use Rattle.wiedergabe.specs.declared.Replayed.{Replayed}
use Rattle.wiedergabe.specs.declared.Replayed.TheVariants.{Equal, Different, Unreadable}
use Rattle.vektoren_fragen.specs.FileCase.{AsExpected, ReplaysFile, ReplaysNext}

module _ (old a b new : Option (List ℕ)) (q m l e : List ℕ) where
  whole : Consumes old a q → Consumes a b l → length l ≡ 1 → Consumes b new e → Consumes old new (q ++ get_or l 0 0 ∷ e)
  whole p r h s =
      Consumes-trans old a new q (get_or l 0 0 ∷ e) p
      (Consumes-trans a b new (get_or l 0 0 ∷ []) e (subst (Consumes a b) (one_byte l h) r) s)

  pub file_read :
      Consumes old a q → Consumes a b l → length l ≡ 1 → Consumes b new e → m ≡ replicate (length e) 170 →
      (equal : Bool) → (IsTrue equal ↔ AsExpected q m (get_or l 0 0) e) →
      ReplaysFile old new q e (if equal then Equal else Different)
  file_read p r h s i true k =
      (get_or l 0 0, whole p r h s, subst (λ m. AsExpected q m (get_or l 0 0) e) i (k.0 refl))
  file_read p r h s i false k = (
    get_or l 0 0,
    whole p r h s,
    λ x. let no : false ≡ true = k.1 (subst (λ m. AsExpected q m (get_or l 0 0) e) (sym i) x) in cc,
  )

module _ (old mid : Option (List ℕ)) (h : List ℕ) (n : ℕ) (sized : length h ≡ 8) (all : n ≡ 8)
    (head : Consumes old mid (take n h)) where
  head_read : Consumes old mid h
  head_read = begun old mid h n (all ∙ sym sized) head

  pub next_long : (65600 < u32_at h 0) ⊎ (65600 < u32_at h 4) → ReplaysNext old mid (Some Unreadable)
  next_long long = inr (h, (sized, long), head_read)

  next_file :
      (new : Option (List ℕ)) (q e : List ℕ) (r : Replayed) → u32_at h 0 ≡ length q → u32_at h 4 ≡ length e →
      ReplaysFile mid new q e r → ReplaysNext old new (Some r)
  next_file new q e Equal i j p =
      (h, q, p.0, e, (sized, i, j), Consumes-trans old mid new h (q ++ p.0 ∷ e) head_read p.1, p.2)
  next_file new q e Different i j p =
      (h, q, p.0, e, (sized, i, j), Consumes-trans old mid new h (q ++ p.0 ∷ e) head_read p.1, p.2)
  next_file new q e Unreadable i j p = inl p

  pub next_read :
      (new : Option (List ℕ)) (asked lent : ℕ) (qs es q e : List ℕ) (r : Replayed) → asked ≡ u32_at h 0 →
      lent ≡ u32_at h 4 → asked ≤ length qs → lent ≤ length es → length q ≡ length (take asked qs) →
      length e ≡ length (take lent es) → ReplaysFile mid new q e r → ReplaysNext old new (Some r)
  next_read new asked lent qs es q e r i j k l v w p =
      next_file new q e r (sym i ∙ sym (v ∙ length-take-le asked qs k)) (sym j ∙ sym (w ∙ length-take-le lent es l)) p

pub ruleset file_rules = (file_read, filled_as)

pub ruleset next_rules = (next_none, next_long)
