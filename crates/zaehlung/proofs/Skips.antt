-- Days that are shut can be passed over: a walk that goes k days at once, where the days between are shut. For any test
-- w of a day, and any k.
--   ShutOn w d k   = the k days after d are shut; ShutBack w d k  the k days before it, as far as there are so many
--   leap_open, leap_shut, leap_edge    k days on, of which all but the last are shut: the last is open; it is shut; the
--                  calendar ends before it
--   back_open, back_shut, back_edge    k days back
--   more_open, more_shut, more_none    the same of a count of the days after a up to and with b
-- Source: the definitions of Walk.
-- Assumes nothing.
use Prim.Native.Nat.{ℕ, zero, suc, ◌+◌, ◌-◌, ◌≤◌, ◌<◌}
use mathlib.Core.Bool.{Bool, true, false}
use mathlib.Core.Path.{◌≡◌, sym, ap, ◌∙◌}
use native.Mathlib.Omega.{arith}
use native.Mathlib.Nat.{add-zero}
use Rattle.zaehlung.specs.Walk.{last, bit, add, sub, among, between}
use Rattle.zaehlung.proofs.Turns.{up_edge, up_open, up_shut, down_edge, down_open, down_shut}
use Rattle.std.specs.Prelude.{Option, None}

module _ (w : ℕ → Bool) where
  abbrev pub ShutOn : ℕ → ℕ → Type 0
  ShutOn d k = (j : ℕ) → 1 ≤ j → j ≤ k → w (d + j) ≡ false

  abbrev pub ShutBack : ℕ → ℕ → Type 0
  ShutBack d k = (j : ℕ) → 1 ≤ j → j ≤ k → j ≤ d → w (d - j) ≡ false

  -- a day on
  add_shut : (d n : ℕ) → d < last → w (suc d) ≡ false → add w d (suc n) ≡ add w (suc d) (suc n)
  unfolding add
  add_shut d n h f =
      let k : last - d ≡ suc (last - suc d) = omega arith in
      rw k (up_shut w (last - suc d) d n f)

  add_open : (d n : ℕ) → d < last → w (suc d) ≡ true → add w d (suc n) ≡ add w (suc d) n
  unfolding add
  add_open d n h t =
      let k : last - d ≡ suc (last - suc d) = omega arith in
      rw k (up_open w (last - suc d) d n t)

  add_edge : (n : ℕ) → add w last (suc n) ≡ None
  unfolding add
  add_edge n = up_edge w last n

  later : (d k : ℕ) → ShutOn d (suc k) → ShutOn (suc d) k
  later d k f j a b = let e : d + suc j ≡ suc d + j = omega arith in rw e at (f (suc j) (omega arith) (omega arith))

  pass_on : (k d n : ℕ) → ShutOn d k → d + k ≤ last → add w d (suc n) ≡ add w (d + k) (suc n)
  pass_on zero d n f h = rw add-zero
  pass_on (suc k) d n f h =
      let s : d + 1 ≡ suc d = omega arith in
      let e : suc d + k ≡ d + suc k = omega arith in
      add_shut d n (omega arith) (rw s at (f 1 (omega arith) (omega arith)))
      ∙ pass_on k (suc d) n (later d k f) (omega arith)
      ∙ ap (λ (x : ℕ). add w x (suc n)) e

  module _ (x : Option ℕ) (d n k : ℕ) (i : x ≡ add w d n) (m : 0 < n) where
    asked : x ≡ add w d (suc (n - 1))
    asked = let e : n ≡ suc (n - 1) = omega arith in i ∙ ap (add w d) e

    to_last : 1 ≤ k → ShutOn d (k - 1) → d + k ≤ last → x ≡ add w (d + (k - 1)) (suc (n - 1))
    to_last a f h = asked ∙ pass_on (k - 1) d (n - 1) f (omega arith)

    pub leap_open : 1 ≤ k → ShutOn d (k - 1) → d + k ≤ last → w (d + k) ≡ true → x ≡ add w (d + k) (n - 1)
    leap_open a f h t =
        let e : suc (d + (k - 1)) ≡ d + k = omega arith in
        to_last a f h
        ∙ add_open (d + (k - 1)) (n - 1) (omega arith) (rw e t)
        ∙ ap (λ (y : ℕ). add w y (n - 1)) e

    pub leap_shut : 1 ≤ k → ShutOn d (k - 1) → d + k ≤ last → w (d + k) ≡ false → x ≡ add w (d + k) n
    leap_shut a f h t =
        let e : suc (d + (k - 1)) ≡ d + k = omega arith in
        let o : suc (n - 1) ≡ n = omega arith in
        to_last a f h
        ∙ add_shut (d + (k - 1)) (n - 1) (omega arith) (rw e t)
        ∙ rw (e, o)

    pub leap_edge : d ≤ last → last - d < k → ShutOn d (k - 1) → None ≡ x
    leap_edge h g f =
        let e : d + (last - d) ≡ last = omega arith in
        sym
        (asked
        ∙ pass_on (last - d) d (n - 1) (λ j a b. f j a (omega arith)) (omega arith)
        ∙ ap (λ (y : ℕ). add w y (suc (n - 1))) e
        ∙ add_edge (n - 1))

  -- a day back
  sub_shut : (d n : ℕ) → w d ≡ false → sub w (suc d) (suc n) ≡ sub w d (suc n)
  unfolding sub
  sub_shut d n f = down_shut w d n f

  sub_open : (d n : ℕ) → w d ≡ true → sub w (suc d) (suc n) ≡ sub w d n
  unfolding sub
  sub_open d n t = down_open w d n t

  sub_edge : (n : ℕ) → sub w 0 (suc n) ≡ None
  unfolding sub
  sub_edge n = down_edge w n

  earlier : (d k : ℕ) → 1 ≤ d → ShutBack d (suc k) → ShutBack (d - 1) k
  earlier d k h f j a b c =
      let e : d - suc j ≡ d - 1 - j = omega arith in
      rw e at (f (suc j) (omega arith) (omega arith) (omega arith))

  pass_back : (k d n : ℕ) → ShutBack d k → k ≤ d → sub w d (suc n) ≡ sub w (d - k) (suc n)
  pass_back zero d n f h = let e : d ≡ d - 0 = omega arith in ap (λ (x : ℕ). sub w x (suc n)) e
  pass_back (suc k) d n f h =
      let s : suc (d - 1) ≡ d = omega arith in
      let e : d - 1 - k ≡ d - suc k = omega arith in
      ap (λ (x : ℕ). sub w x (suc n)) (sym s)
      ∙ sub_shut (d - 1) n (f 1 (omega arith) (omega arith) (omega arith))
      ∙ pass_back k (d - 1) n (earlier d k (omega arith) f) (omega arith)
      ∙ ap (λ (x : ℕ). sub w x (suc n)) e

  module _ (x : Option ℕ) (d n k : ℕ) (i : x ≡ sub w d n) (m : 0 < n) where
    wanted : x ≡ sub w d (suc (n - 1))
    wanted = let e : n ≡ suc (n - 1) = omega arith in i ∙ ap (sub w d) e

    to_first : 1 ≤ k → ShutBack d (k - 1) → k ≤ d → x ≡ sub w (suc (d - k)) (suc (n - 1))
    to_first a f h =
        let e : d - (k - 1) ≡ suc (d - k) = omega arith in
        wanted ∙ pass_back (k - 1) d (n - 1) f (omega arith) ∙ ap (λ (y : ℕ). sub w y (suc (n - 1))) e

    pub back_open : 1 ≤ k → ShutBack d (k - 1) → k ≤ d → w (d - k) ≡ true → x ≡ sub w (d - k) (n - 1)
    back_open a f h t = to_first a f h ∙ sub_open (d - k) (n - 1) t

    pub back_shut : 1 ≤ k → ShutBack d (k - 1) → k ≤ d → w (d - k) ≡ false → x ≡ sub w (d - k) n
    back_shut a f h t =
        let o : suc (n - 1) ≡ n = omega arith in
        to_first a f h ∙ sub_shut (d - k) (n - 1) t ∙ ap (sub w (d - k)) o

    pub back_edge : d < k → ShutBack d (k - 1) → None ≡ x
    back_edge h f =
        let e : d - d ≡ 0 = omega arith in
        sym
        (wanted
        ∙ pass_back d d (n - 1) (λ j a b c. f j a (omega arith) c) (omega arith)
        ∙ ap (λ (y : ℕ). sub w y (suc (n - 1))) e
        ∙ sub_edge (n - 1))

  -- the days after a up to and with b, counted
  one_more : (a b : ℕ) → a < b → between w a b ≡ bit (w (suc a)) + between w (suc a) b
  unfolding between among
  one_more a b h = let k : b - a ≡ suc (b - suc a) = omega arith in rw k

  none_left : (a : ℕ) → between w a a ≡ 0
  unfolding between among
  none_left a = let k : a - a ≡ 0 = omega arith in rw k

  pass_between : (k a b : ℕ) → ShutOn a k → a + k ≤ b → between w a b ≡ between w (a + k) b
  pass_between zero a b f h = rw add-zero
  pass_between (suc k) a b f h =
      let s : a + 1 ≡ suc a = omega arith in
      let z = ap bit (rw s at (f 1 (omega arith) (omega arith))) in
      let e : suc a + k ≡ a + suc k = omega arith in
      let y = ap (λ (x : ℕ). between w x b) e in
      omega (arith, one_more a b (omega arith), pass_between k (suc a) b (later a k f) (omega arith))

  module _ (x c a b k : ℕ) (i : x ≡ c + between w a b) (f : ShutOn a (k - 1)) where
    up_to : 1 ≤ k → a + k ≤ b → (t : Bool) → w (a + k) ≡ t → between w a b ≡ bit t + between w (a + k) b
    up_to h g t q =
        let e : suc (a + (k - 1)) ≡ a + k = omega arith in
        let y = ap (λ (x : ℕ). bit (w x) + between w x b) e in
        let z = ap bit q in
        omega (arith, pass_between (k - 1) a b f (omega arith), one_more (a + (k - 1)) b (omega arith))

    pub more_open : 1 ≤ k → a + k ≤ b → w (a + k) ≡ true → x ≡ c + 1 + between w (a + k) b
    more_open h g t = omega (arith, up_to h g true t)

    pub more_shut : 1 ≤ k → a + k ≤ b → w (a + k) ≡ false → x ≡ c + between w (a + k) b
    more_shut h g t = omega (arith, up_to h g false t)

    pub more_none : a ≤ b → b - a < k → c ≡ x
    more_none h g =
        let e : a + (b - a) ≡ b = omega arith in
        let y = ap (λ (x : ℕ). between w x b) e in
        omega (arith, pass_between (b - a) a b (λ j p q. f j p (omega arith)) (omega arith), none_left b)
