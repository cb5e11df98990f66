-- Calls that are made one after the other, and what they lead to.
--   Step S             = what a call does: the state before it, what it returns, the state after it
--   Leads step f t e g = t calls from the state f, e of them equal, lead to the state g: what is replayed from g is,
--                        with these, what is replayed from f
--   leads              = no call, one call more, and the three ways to the end
use Rattle.std.proofs.Common.{◌≡◌, ◌≢◌, ◌∙◌, ap, ℕ, suc, ◌+◌, ◌-◌, ◌<◌, ◌≤◌, Option, Some, None, Result, Ok, refl}
use Rattle.std.proofs.Common.{add-zero, zero-add, arith, subst}
use Rattle.std.specs.declared.io.Error.{Error}
use Rattle.wiedergabe.specs.declared.Replayed.{Replayed}
use Rattle.wiedergabe.specs.declared.Replayed.TheVariants.{Equal, Different, Unreadable}
use Rattle.wiedergabe.specs.Replay.{equal_of, Replays}
use Rattle.wiedergabe.specs.Replay.Replays.{stops, ends, breaks, equals, differs}

abbrev pub Step : Type 0 → Type 1
Step S = S → Result (Option Replayed) Error → S → Type 0

pub record Leads {S : Type 0} (step : Step S) (f : S) (t e : ℕ) (g : S) : Type 0 where
  pub rest : (m u v : ℕ) → Replays step g m u v → Replays step f (t + m) (t + u) (e + v)

module _ {S : Type 0} {step : Step S} where
  pub leads_begin : {f : S} → Leads step f 0 0 f
  leads_begin = record { rest = λ m u v k. rw (zero-add m, zero-add u, zero-add v) k }

  counted :
      {g h : S} (r : Replayed) (m u v : ℕ) → step g (Ok (Some r)) h → r ≢ Unreadable → Replays step h m u v →
      Replays step g (suc m) (suc u) (equal_of r + v)
  counted {g} {h} Equal m u v s i k = let p : 1 + v ≡ suc v = omega arith in rw p (equals g h m u v s k)
  counted {g} {h} Different m u v s i k = rw (zero-add v) (differs g h m u v s k)
  counted Unreadable m u v s i k = absurd (i refl)

  module _ {f : S} {t e : ℕ} {g : S} where
    pub leads_all : {n : ℕ} → Leads step f t e g → n ≡ t → Replays step f n n e
    leads_all l i = let k = l.rest 0 0 0 (stops g) in rw i (rw (add-zero t, add-zero e) at k)

  module _ {f : S} {t e : ℕ} {g h : S} {o : Option Replayed} where
    pub leads_end : {n : ℕ} → Leads step f t e g → step g (Ok o) h → o ≡ None → t < n → Replays step f n t e
    leads_end {n} l s i r =
        let k = l.rest (suc (n - suc t)) 0 0 (ends g h (n - suc t) (subst (λ o. step g (Ok o) h) i s)) in
        let p : t + suc (n - suc t) ≡ n = omega arith in
        rw (p, add-zero t, add-zero e) at k

    module _ {r : Replayed} where
      pub leads_on :
          {n : ℕ} → Leads step f t e g → step g (Ok o) h → o ≡ Some r → r ≢ Unreadable → n ≡ e + equal_of r →
          Leads step f (t + 1) n h
      leads_on {n} l s i j q = record {
        rest = λ m u v k.
            let p : t + 1 + u ≡ t + suc u = omega arith in
            let p' : t + 1 + m ≡ t + suc m = omega arith in
            let q' : n + v ≡ e + (equal_of r + v) = omega arith in
            rw (p, p', q') (l.rest _ _ _ (counted r m u v (subst (λ o. step g (Ok o) h) i s) j k));
      }

      pub leads_break :
          {m n : ℕ} → Leads step f t e g → step g (Ok o) h → o ≡ Some r → r ≡ Unreadable → n ≡ e + equal_of r →
          t < m → Replays step f m (t + 1) n
      leads_break {m} {n} l s i j q below =
          let k = l.rest (suc (m - suc t)) 1 0
          (breaks g h (m - suc t) (subst (λ o. step g (Ok o) h) (i ∙ ap Some j) s)) in
          let p : t + suc (m - suc t) ≡ m = omega arith in
          let z : n ≡ e + 0 = q ∙ ap (λ r. e + equal_of r) j in
          rw z (rw p at k)

pub ruleset leads = (leads_begin, leads_on, leads_end, leads_break, leads_all)
