-- A list of numbers that is being read, and a portfolio that was read whole.
--   IsFilled old now list i = the first i numbers of the list are those whose bytes the bytes to come lost since old
--   list_rules              = none is read yet; one number more is; all are
--   portfolio_read          = a portfolio that was read whole comes to what the call leaves
--   next_long, next_read = so does the next: it is too long, it was read behind its head
use Rattle.std.proofs.Common.{◌≡◌, ◌∙◌, ℕ, ◌+◌, ◌<◌, ◌≤◌, List, [], ◌∷◌, ◌++◌, length, get_or, set}
use Rattle.std.proofs.Common.{take, Option, Bool, true, false, IsTrue, ◌↔◌, if◌then◌else◌, MatchBool, refl, sym, ap}
use Rattle.std.proofs.Common.{subst, arith, add-one, append-nil}
use Rattle.std.proofs.Common.{◌⊎◌, inl, inr, Some, replicate, length-take-le}
use Rattle.std.proofs.lemmas.Grind.{flat_map-append}
use lib.Seq.{take_all, take-suc-set}
use Rattle.std.specs.Io.KnownBytes.{Consumes}
use Rattle.std.proofs.KnownBytes.{Consumes-nil, Consumes-trans}
use Rattle.zahlen.specs.LittleEndian.{le4}
use Rattle.eingabe.proofs.Begun.{one_byte, begun, next_none, filled_as}
use Rattle.zahlen.specs.Places.{u32_at}
use Rattle.zahlen.proofs.RoundTrip.{u32_bytes}
use Rattle.zahlen.proofs.RoundTrip.Below.{none, more}
use Rattle.wiedergabe.specs.declared.Replayed.{Replayed}
use Rattle.wiedergabe.specs.declared.Replayed.TheVariants.{Equal, Different, Unreadable}
use Rattle.vektoren_portfolio.specs.PortfolioCase.{IsPortfolioHead, ReplaysNextPortfolio}
use Rattle.vektoren_portfolio.specs.PortfolioCase.{bytes_of_list, bytes_of_portfolio, LeavesAll, ReplaysPortfolio}

pub record IsFilled (old now : Option (List ℕ)) (list : List ℕ) (i : ℕ) : Type 0 where
  pub taken : Consumes old now (bytes_of_list (take i list))

pub filled_begin : (now : Option (List ℕ)) (list : List ℕ) → IsFilled now now list 0
filled_begin now list = record { taken = Consumes-nil now }

pub word_read :
    (l : List ℕ) → length l ≡ 4 → ((k : ℕ) → k < length l → get_or l k 0 < 256) → le4 (u32_at l 0) ≡ l
word_read [] h b = absurd (omega arith)
word_read (w ∷ []) h b = absurd (omega arith)
word_read (w ∷ x ∷ []) h b = absurd (omega arith)
word_read (w ∷ x ∷ y ∷ []) h b = absurd (omega arith)
word_read (w ∷ x ∷ y ∷ z ∷ []) h b =
    u32_bytes w x y z
    (more (b 0 (omega arith)) (more (b 1 (omega arith)) (more (b 2 (omega arith)) (more (b 3 (omega arith)) none))))
word_read (v ∷ w ∷ x ∷ y ∷ z ∷ l) h b = absurd (omega arith)

pub when_full : (P Q : Type 0) (full : Bool) → full ≡ true → MatchBool full P Q → P
when_full P Q true e h = h
when_full P Q false e h = let no : false ≡ true = e in cc

module _ {old now : Option (List ℕ)} {list : List ℕ} {i : ℕ} (before : IsFilled old now list i) where
  pub filled_all : length list ≤ i → Consumes old now (bytes_of_list list)
  filled_all h = subst (λ l. Consumes old now (bytes_of_list l)) (take_all i list h) before.taken

  pub filled_more :
      (next : Option (List ℕ)) (l : List ℕ) (x : ℕ) → i < length list → Consumes now next l → le4 x ≡ l →
      IsFilled old next (set list i x) (i + 1)
  filled_more next l x h step e = record {
    taken =
        let both = Consumes-trans old now next (bytes_of_list (take i list)) l before.taken step in
        let front : take (i + 1) (set list i x) ≡ take i list ++ x ∷ [] =
        rw (add-one i) (take-suc-set list i x h) in
        let bytes : bytes_of_list (take (i + 1) (set list i x)) ≡ bytes_of_list (take i list) ++ l =
        ap bytes_of_list front ∙ flat_map-append le4 (take i list) (x ∷ [])
        ∙ ap (λ bs. bytes_of_list (take i list) ++ bs) (append-nil (le4 x) ∙ e) in
        subst (Consumes old next) (sym bytes) both;
  }

module _ (old a b c d new : Option (List ℕ)) (xs ys zs m l cs e : List ℕ) where
  whole :
      Consumes old a (bytes_of_list xs) → Consumes a b (bytes_of_list ys) → Consumes b c l → length l ≡ 1 →
      Consumes c d (bytes_of_list cs) → Consumes d new e →
      Consumes old new (bytes_of_portfolio xs ys (get_or l 0 0) cs e)
  whole p q r h s t =
      Consumes-trans old a new (bytes_of_list xs) _ p
      (Consumes-trans a b new (bytes_of_list ys) _ q
      (Consumes-trans b c new (get_or l 0 0 ∷ []) _ (subst (Consumes b c) (one_byte l h) r)
      (Consumes-trans c d new (bytes_of_list cs) e s t)))

  pub portfolio_read :
      Consumes old a (bytes_of_list xs) → Consumes a b (bytes_of_list ys) → Consumes b c l → length l ≡ 1 →
      Consumes c d (bytes_of_list cs) → Consumes d new e → zs ≡ replicate (length cs) 2863311530 →
      m ≡ replicate (length e) 170 → (equal : Bool) → (IsTrue equal ↔ LeavesAll xs ys zs m (get_or l 0 0) cs e) →
      ReplaysPortfolio old new xs ys cs e (if equal then Equal else Different)
  portfolio_read p q r h s t i j true k = (
    get_or l 0 0,
    whole p q r h s t,
    subst (λ zs. LeavesAll xs ys zs (replicate (length e) 170) (get_or l 0 0) cs e) i
        (subst (λ m. LeavesAll xs ys zs m (get_or l 0 0) cs e) j (k.0 refl)),
  )
  portfolio_read p q r h s t i j false k = (
    get_or l 0 0,
    whole p q r h s t,
    λ x.
        let y = subst (λ m. LeavesAll xs ys zs m (get_or l 0 0) cs e) (sym j)
        (subst (λ zs. LeavesAll xs ys zs (replicate (length e) 170) (get_or l 0 0) cs e) (sym i) x) in
        let no : false ≡ true = k.1 y in cc,
  )

module _ (old mid : Option (List ℕ)) (h : List ℕ) (n : ℕ) (sized : length h ≡ 16) (all : n ≡ 16)
    (head : Consumes old mid (take n h)) where
  head_read : Consumes old mid h
  head_read = begun old mid h n (all ∙ sym sized) head

  pub next_long :
      (4100 < u32_at h 0) ⊎ (4100 < u32_at h 4) ⊎ (4100 < u32_at h 8) ⊎ (64 < u32_at h 12) →
      ReplaysNextPortfolio old mid (Some Unreadable)
  next_long long = inr (h, (sized, long), head_read)

  next_portfolio :
      (new : Option (List ℕ)) (xs ys cs e : List ℕ) (r : Replayed) → IsPortfolioHead h xs ys cs e →
      ReplaysPortfolio mid new xs ys cs e r → ReplaysNextPortfolio old new (Some r)
  next_portfolio new xs ys cs e Equal i p =
      (h, xs, ys, p.0, cs, e, i, Consumes-trans old mid new h (bytes_of_portfolio xs ys p.0 cs e) head_read p.1, p.2)
  next_portfolio new xs ys cs e Different i p =
      (h, xs, ys, p.0, cs, e, i, Consumes-trans old mid new h (bytes_of_portfolio xs ys p.0 cs e) head_read p.1, p.2)
  next_portfolio new xs ys cs e Unreadable i p = inl p

  lent :
      (xs l : List ℕ) (k place : ℕ) → k ≡ u32_at h place → k ≤ length l → length xs ≡ length (take k l) →
      u32_at h place ≡ length xs
  lent xs l k place i j e = sym i ∙ sym (e ∙ length-take-le k l j)

  pub next_read :
      (new : Option (List ℕ)) (a b c d : ℕ) (from to counts answer xs ys cs e : List ℕ) (r : Replayed) →
      a ≡ u32_at h 0 → b ≡ u32_at h 4 → c ≡ u32_at h 8 → d ≡ u32_at h 12 →
      a ≤ length from → b ≤ length to → c ≤ length counts → d ≤ length answer →
      length xs ≡ length (take a from) → length ys ≡ length (take b to) →
      length cs ≡ length (take c counts) → length e ≡ length (take d answer) →
      ReplaysPortfolio mid new xs ys cs e r → ReplaysNextPortfolio old new (Some r)
  next_read new a b c d from to counts answer xs ys cs e r ia ib ic id ja jb jc jd ka kb kc kd p =
      next_portfolio new xs ys cs e r (
        sized,
        lent xs from a 0 ia ja ka,
        lent ys to b 4 ib jb kb,
        lent cs counts c 8 ic jc kc,
        lent e answer d 12 id jd kd,
      ) p

pub ruleset list_rules = (filled_begin, filled_more, filled_all)

pub ruleset portfolio_rules = (portfolio_read, filled_as)

pub ruleset next_rules = (next_none, next_long)
