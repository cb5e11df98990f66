-- What the proof of `portfolio_reply` cites.
--   portfolio_reply_rules   an answer of another length; lists that are no portfolio; lists that are one
-- Assumes nothing.
use Prim.Native.Nat.{ℕ}
use mathlib.Core.Bool.{Bool, true, false}
use mathlib.Core.List.{List}
use mathlib.Core.Path.{◌≡◌, refl}
use lib.ListN.{length}
use Rattle.std.specs.Prelude.{Ok, Err}
use Rattle.portfolio.specs.Portfolio.{is_portfolio, counts_of}
use Rattle.portfolio.specs.Runs.{runs}
use Rattle.antwortsatz.specs.declared.Refusal.TheVariants.{ListLength}
use Rattle.antwortsatz.specs.Answers.{counted}
use Rattle.antwortsatz.specs.Bytes.{bytes_of}
use Rattle.antwortsatz.proofs.Rules.{reply_other, reply_whole}
use Rattle.antworten_portfolio.specs.Portfolio.{portfolio_answer, counts_left, portfolio_reply}

module _ (w : ℕ → Bool) (xs ys zs l : List ℕ) where
  pub other_length : (length l ≡ 32 → ⊥) → portfolio_reply w xs ys zs l ≡ (1, zs, l)
  unfolding portfolio_reply counts_left
  other_length h = rw (← reply_other l (portfolio_answer xs ys zs) 1 refl h)

  pub no_portfolio :
      length l ≡ 32 → is_portfolio (length xs) (length ys) (length zs) ≡ false →
      portfolio_reply w xs ys zs l ≡ (10, zs, bytes_of (Err ListLength))
  unfolding portfolio_reply portfolio_answer counts_left
  no_portfolio h t = rw (t, reply_whole l (Err ListLength) h)

  pub all_counted :
      length l ≡ 32 → is_portfolio (length xs) (length ys) (length zs) ≡ true →
      portfolio_reply w xs ys zs l ≡ (0, counts_of w xs ys, bytes_of (Ok (counted (runs xs ys) 0)))
  unfolding portfolio_reply portfolio_answer counts_left
  all_counted h t = rw (t, reply_whole l (Ok (counted (runs xs ys) 0)) h)

pub ruleset portfolio_reply_rules = (other_length, no_portfolio, all_counted, reply_whole)
