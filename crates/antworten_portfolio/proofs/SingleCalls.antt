-- A portfolio's counts beside the single call's; specs/SingleCount.antt has the statements.
-- Assumes nothing.
use Prim.Native.Nat.{ℕ, suc, ◌+◌, ◌-◌, ◌≤◌, ◌<◌}
use mathlib.Core.Bool.{Bool, true}
use mathlib.Core.List.{List}
use mathlib.Core.Path.{◌≡◌}
use native.Mathlib.Omega.{arith}
use lib.ListN.{length, get_or}
use borrow.Author.Tests.{le-leb}
use Rattle.zaehlung.specs.Walk.{last, between}
use Rattle.zaehlung.proofs.Count.{count_among, count_le}
use Rattle.datum.specs.declared.Date.{Date}
use Rattle.datum.specs.Calendar.{index_of}
use Rattle.datum.proofs.RoundTrip.{index_inside}
use Rattle.portfolio.specs.Portfolio.{is_portfolio, in_range, pair_count}
use Rattle.portfolio.proofs.Pairs.{pairwise_at}
use Rattle.portfolio.proofs.Rules.{within}
use Rattle.portfolio.proofs.Counted.{lengths_are}
use Rattle.antwortsatz.specs.Answers.{counted}
use Rattle.schritte.specs.Tested.{days_tested}
use Rattle.antworten.specs.Kalender.{werktage_between_answer}
use Rattle.antworten_portfolio.specs.Portfolio.{portfolio_reply}
use Rattle.antworten_portfolio.specs.SingleCount.{CountWithinCalendar}
use Rattle.antworten_portfolio.proofs.Rules.{all_counted}
use Rattle.std.specs.Prelude.{Some, Ok}

-- two indexes as days from 1 January 1970 on
in_range_lem : (i j : ℕ) → i ≤ last → j ≤ last → in_range (9496 + i) (9496 + j) ≡ true
unfolding in_range
in_range_lem i j h g =
    rw (
      le-leb 9496 (9496 + i) (omega arith),
      le-leb (9496 + i) 339675 (omega arith),
      le-leb 9496 (9496 + j) (omega arith),
      le-leb (9496 + j) 339675 (omega arith),
    )

module _ (w : ℕ → Bool) (d e : Date) (i j : ℕ) (f : index_of d ≡ Some i) (g : index_of e ≡ Some j) where
  pub pair_call : werktage_between_answer w d e ≡ Ok (counted (pair_count w (9496 + i) (9496 + j)) (days_tested i j))
  unfolding pair_count werktage_between_answer
  pair_call =
      let a : 9496 + i - 9496 ≡ i = omega arith in
      let b : 9496 + j - 9496 ≡ j = omega arith in
      rw (in_range_lem i j (index_inside d i f) (index_inside e j g), a, b, f, g)

  pub place_call :
      (xs ys zs l : List ℕ) (k : ℕ) → is_portfolio (length xs) (length ys) (length zs) ≡ true → length l ≡ 32 →
      k < length xs → get_or xs k 0 ≡ 9496 + i → get_or ys k 0 ≡ 9496 + j →
      werktage_between_answer w d e ≡ Ok (counted (get_or (portfolio_reply w xs ys zs l).1 k 0) (days_tested i j))
  place_call xs ys zs l k p h q x y =
      let n = lengths_are (length xs) (length ys) (length zs) p in
      let z = pairwise_at (pair_count w) xs ys k n.days q in
      rw (all_counted w xs ys zs l h p, z, x, y) pair_call

pub pair_within : CountWithinCalendar
unfolding pair_count between
pair_within w a b t =
    let h = within a b t in
    let i = suc (a - 9496) in
    let k = b - 9496 - (a - 9496) in
    rw t (omega (arith, count_among w i k, count_le w (i + k)))
