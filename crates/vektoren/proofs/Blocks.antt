-- An input that is read in blocks: what a block more, and a byte more, does to the bytes to come.
use Rattle.std.proofs.Common.{◌≡◌, ◌∙◌, ℕ, ◌+◌, ◌-◌, ◌<◌, ◌≤◌, List, [], ◌∷◌, ◌++◌, length, take}
use Rattle.std.proofs.Common.{suc, get_or, slice_range, Option, Some, None, refl, ap, arith, drop-cons, add-one}
use Rattle.std.specs.Io.KnownBytes.{Consumes, IsAtEnd, prepend_known}
use Rattle.std.proofs.KnownBytes.{Consumes-nil}
use Rattle.vektoren.specs.Input.{still_to_come}

range_none : (block : List ℕ) (from to : ℕ) → to ≤ from → slice_range block from to ≡ []
range_none block from to h = let e : to - from ≡ 0 = omega arith in rw e refl

range_next :
    (block : List ℕ) (from to : ℕ) → from < to → to ≤ length block →
    slice_range block from to ≡ get_or block from 0 ∷ slice_range block (from + 1) to
range_next block from to h k =
    let e : to - from ≡ suc (to - (from + 1)) = omega arith in
    let l : from < length block = omega arith in
    rw (e, drop-cons block from 0 l, add-one from) refl

range_front : (block : List ℕ) (n : ℕ) → slice_range block 0 n ≡ take n block
range_front block n = let e : n - 0 ≡ n = omega arith in rw e refl

come : (known : Option (List ℕ)) (block : List ℕ) (from to : ℕ) → to ≤ from → still_to_come known block from to ≡ known
come None block from to h = refl
come (Some xs) block from to h = ap (λ l. Some (l ++ xs)) (range_none block from to h)

filled : (old new : Option (List ℕ)) (bs : List ℕ) → Consumes old new bs → Consumes old (prepend_known bs new) []
filled None new bs h = tt
filled (Some xs) None bs h = absurd h
filled (Some xs) (Some ys) bs h = h

one :
    (known : Option (List ℕ)) (b : ℕ) (bs : List ℕ) →
    Consumes (prepend_known (b ∷ bs) known) (prepend_known bs known) (b ∷ [])
one None b bs = tt
one (Some xs) b bs = refl

pub all_come : (old new : Option (List ℕ)) → Consumes old new [] → IsAtEnd new → IsAtEnd old
all_come None new h e = tt
all_come (Some xs) None h e = absurd h
all_come (Some xs) (Some ys) h e = h ∙ e

pub block_kept : (now : Option (List ℕ)) → Consumes now now []
block_kept now = Consumes-nil now

pub block_more :
    (old new : Option (List ℕ)) (block next : List ℕ) (from to n : ℕ) → to ≤ from → Consumes old new (take n next) →
    Consumes (still_to_come old block from to) (still_to_come new next 0 n) []
block_more old new block next from to n h p =
    rw (come old block from to h, range_front next n) (filled old new (take n next) p)

pub block_end :
    (new : Option (List ℕ)) (next : List ℕ) (n : ℕ) → 0 ≡ n → (n < length next → IsAtEnd new) → 0 < length next →
    IsAtEnd (still_to_come new next 0 n)
block_end new next n e h l = rw (come new next 0 n (omega arith)) (h (omega arith))

pub block_next :
    (known : Option (List ℕ)) (block : List ℕ) (from to : ℕ) → from < to → to ≤ length block →
    Consumes (still_to_come known block from to) (still_to_come known block (from + 1) to) (get_or block from 0 ∷ [])
block_next known block from to h l =
    rw (range_next block from to h l) (one known (get_or block from 0) (slice_range block (from + 1) to))

-- a block was filled before the byte came
pub block_then : (a b c : Option (List ℕ)) (bs : List ℕ) → Consumes a b [] → Consumes b c bs → Consumes a c bs
block_then None b c bs p q = tt
block_then (Some x) None c bs p q = absurd p
block_then (Some x) (Some y) None bs p q = absurd q
block_then (Some x) (Some y) (Some z) bs p q = p ∙ q

pub ruleset block_rules = (block_kept, block_more, block_end, block_next, block_then)
