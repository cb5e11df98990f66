-- Reading hexadecimal text.
--   IsRead l a n i out = of the n bytes whose digits start at a of the text l, the first i stand at the front of out,
--                        and those behind them are still to be read
--   digit_at           = the two digits of a byte in the text that is cut into pairs
--   hex_rules          = none is read yet; one byte more is read; one of its digits is none; all are read
-- Assumes nothing.
use Rattle.std.proofs.Common.{◌≡◌, ℕ, suc, ◌+◌, ◌-◌, ◌*◌, ◌<◌, ◌≤◌, List, [], ◌∷◌, ◌++◌, length, get_or, set, take}
use Rattle.std.proofs.Common.{Option, Some, None, refl, sym, ap, ◌∙◌, arith, add-one, length-set, append_assoc}
use Rattle.std.proofs.Common.{append-nil, drop, get_or-drop, zero}
use Rattle.std.proofs.lemmas.List.{get_or-take}
use Rattle.std.specs.Simd.{first_chunks}
use Rattle.std.specs.Option.{option_map}
use lib.Seq.{take_all, take-suc-set}
use Rattle.vektoren.specs.Hex.{digit, byte_at, bytes_at}

pub record IsRead (l : List ℕ) (a n i : ℕ) (out : List ℕ) : Type 0 where
  pub rest : bytes_at l a n ≡ option_map (λ bs. take i out ++ bs) (bytes_at l (a + 2 * i) (n - i))
  pub sized : length out ≡ n

option_map-same : (o : Option (List ℕ)) → option_map (λ bs. bs) o ≡ o
option_map-same None = refl
option_map-same (Some x) = refl

option_map-twice :
    (f g : List ℕ → List ℕ) (o : Option (List ℕ)) → option_map f (option_map g o) ≡ option_map (λ x. f (g x)) o
option_map-twice f g None = refl
option_map-twice f g (Some x) = refl

option_map-equal :
    (f g : List ℕ → List ℕ) → ((x : List ℕ) → f x ≡ g x) → (o : Option (List ℕ)) → option_map f o ≡ option_map g o
option_map-equal f g h None = refl
option_map-equal f g h (Some x) = ap Some (h x)

put_at_end :
    (out : List ℕ) (i b : ℕ) (bs : List ℕ) → i < length out → take i out ++ b ∷ bs ≡ take (i + 1) (set out i b) ++ bs
put_at_end out i b bs h = rw (add-one, take-suc-set out i b h) (sym (append_assoc (take i out) (b ∷ []) bs))

digit_in :
    (k i j : ℕ) (l : List ℕ) → i < k → j < 2 →
    get_or (get_or (first_chunks 2 k l) i []) j 0 ≡ get_or l (2 * i + j) 0
digit_in zero i j l h f = absurd (omega arith)
digit_in (suc k) zero j l h f =
    let e : 2 * 0 + j ≡ j = omega arith in
    rw e (get_or-take 2 l j 0 f)
digit_in (suc k) (suc i) j l h f =
    let e : 2 * suc i + j ≡ 2 + (2 * i + j) = omega arith in
    rw e (digit_in k i j (drop 2 l) (omega arith) f ∙ get_or-drop 2 l (2 * i + j) 0)

digit_at :
    (l : List ℕ) (ps : List (List ℕ)) (a m k i j : ℕ) → ps ≡ first_chunks 2 k (take m (drop a l)) → i < k → j < 2 →
    2 * i + 1 < m → get_or (get_or ps i []) j 0 ≡ get_or l (a + (2 * i + j)) 0
digit_at l ps a m k i j e h f w =
    rw e
    (digit_in k i j (take m (drop a l)) h f ∙ get_or-take m (drop a l) (2 * i + j) 0 (omega arith)
    ∙ get_or-drop a l (2 * i + j) 0)

pub read_begin : (l out : List ℕ) (a n : ℕ) → length out ≡ n → IsRead l a n 0 out
read_begin l out a n e = record {
  sized = e;
  rest =
      let p : a + 2 * 0 ≡ a = omega arith in
      let q : n - 0 ≡ n = omega arith in
      rw (p, q) (sym (option_map-same (bytes_at l a n)));
}

module _ {l out : List ℕ} {a n i : ℕ} (before : IsRead l a n i out) where
  pub read_end : n ≤ i → Some out ≡ bytes_at l a n
  unfolding bytes_at
  read_end h =
      let q : n - i ≡ 0 = omega arith in
      let m : length out ≤ i = omega (arith, before.sized) in
      sym (rw q at before.rest ∙ ap Some (append-nil (take i out) ∙ take_all i out m))

  module _ (inside : i < n) {ps : List (List ℕ)} {m k : ℕ} (cut : ps ≡ first_chunks 2 k (take m (drop a l)))
      (held : i < k) (long : 2 * i + 1 < m) where
    first : get_or (get_or ps i []) 0 0 ≡ get_or l (a + 2 * i) 0
    first =
        let p : a + (2 * i + 0) ≡ a + 2 * i = omega arith in
        rw p at (digit_at l ps a m k i 0 cut held (omega arith) long)

    second : get_or (get_or ps i []) 1 0 ≡ get_or l (a + 2 * i + 1) 0
    second =
        let p : a + (2 * i + 1) ≡ a + 2 * i + 1 = omega arith in
        rw p at (digit_at l ps a m k i 1 cut held (omega arith) long)

    pub no_high : digit (get_or (get_or ps i []) 0 0) ≡ None → bytes_at l a n ≡ None
    unfolding bytes_at byte_at
    no_high h =
        let q : n - i ≡ suc (n - suc i) = omega arith in
        before.rest ∙ rw (q, rw first at h) refl

    module _ {high : ℕ} (h : digit (get_or (get_or ps i []) 0 0) ≡ Some high) where
      pub no_low : digit (get_or (get_or ps i []) 1 0) ≡ None → bytes_at l a n ≡ None
      unfolding bytes_at byte_at
      no_low g =
          let q : n - i ≡ suc (n - suc i) = omega arith in
          before.rest ∙ rw (q, rw first at h, rw second at g) refl

      pub read_more :
          {low : ℕ} → digit (get_or (get_or ps i []) 1 0) ≡ Some low →
          IsRead l a n (i + 1) (set out i (high * 16 + low))
      unfolding bytes_at byte_at
      read_more {low} g = record {
        sized = length-set out i (high * 16 + low) ∙ before.sized;
        rest =
            let q : n - i ≡ suc (n - (i + 1)) = omega arith in
            let p : a + 2 * i + 2 ≡ a + 2 * (i + 1) = omega arith in
            let tail = bytes_at l (a + 2 * (i + 1)) (n - (i + 1)) in
            rw (q, rw first at h, rw second at g, p) at before.rest
            ∙ option_map-twice (λ bs. take i out ++ bs) (λ bs. (high * 16 + low) ∷ bs) tail
            ∙ option_map-equal _ _ (λ bs. put_at_end out i (high * 16 + low) bs (omega (arith, before.sized))) tail;
      }

pub ruleset hex_rules = (read_begin, read_end, no_high, no_low, read_more)
