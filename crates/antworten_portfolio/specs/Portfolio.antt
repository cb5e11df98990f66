-- What a portfolio answers. w is the test of a day: a Werktag by some list.
--   portfolio_answer xs ys zs    = the answer for the days xs and ys and a third list zs, with every refusal but 1
--   counts_left n w xs ys zs     = what the third list holds at exit, n being the number returned
--   portfolio_reply w xs ys zs l = the number returned, and the third list and the answer's slice at exit, for the days
--                                  xs and ys, a third list that held zs and a slice that held l at entry
-- Source: document 02, F-5: 'The number of entries read for first dates is reported in the count of the usual 32-byte
-- answer and equals the number of such runs'; 'Checks: 10, after 1, if the three lists differ in length or have over
-- 4,096 entries. A refused call leaves the third list untouched.'
-- Assumes nothing.
use Rattle.std.specs.Prelude.{ℕ, Bool, cond, List, eqb, length, Result, Ok, Err}
use Rattle.portfolio.specs.Portfolio.{is_portfolio, counts_of}
use Rattle.portfolio.specs.Runs.{runs}
use Rattle.antwortsatz.specs.declared.Answer.{Answer}
use Rattle.antwortsatz.specs.declared.Refusal.{Refusal}
use Rattle.antwortsatz.specs.declared.Refusal.TheVariants.{ListLength}
use Rattle.antwortsatz.specs.Answers.{counted}
use Rattle.antwortsatz.specs.Bytes.{reply}

unfoldable pub portfolio_answer : List ℕ → List ℕ → List ℕ → Result Answer Refusal
portfolio_answer xs ys zs =
    cond (is_portfolio (length xs) (length ys) (length zs)) (Ok (counted (runs xs ys) 0)) (Err ListLength)

unfoldable pub counts_left : ℕ → (ℕ → Bool) → List ℕ → List ℕ → List ℕ → List ℕ
counts_left n w xs ys zs = cond (eqb n 0) (counts_of w xs ys) zs

unfoldable pub portfolio_reply : (ℕ → Bool) → List ℕ → List ℕ → List ℕ → List ℕ → ℕ × List ℕ × List ℕ
portfolio_reply w xs ys zs l =
    let r = reply l (portfolio_answer xs ys zs) in
    (r.0, counts_left r.0 w xs ys zs, r.1)
