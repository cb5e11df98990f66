-- What a portfolio answers, against values from outside: nine pairs, their counts and years by Python's calendar and
-- the holiday list, the answer by its layout.
--   nine_firsts, nine_seconds   2 and 6 April 2026 to the 7th; 31 December 1995; 6 April again; 31 December 2026 to 4
--                               January 2027; 1 January 2027 to itself; the calendar's first day to its second, and its
--                               last but one to its last; its last to the day after
--   NinePairsAnswered      they have five runs: the first two pairs, the fourth and the fifth, the sixth, the seventh,
--                          the eighth
--   UnequalListsRefused    a second list of no days: refused with 10, the third list stays
--   ShortAnswerUntouched   an answer of 31 bytes: refused with 1, nothing is touched
use Rattle.std.specs.Prelude.{ℕ, ◌≡◌, List, [], ◌∷◌, replicate}
use Rattle.werktag.specs.declared.HolidayCalendar.TheVariants.{BdewMaKo}
use Rattle.werktag.specs.Werktag.{is_werktag}
use Rattle.antworten_portfolio.specs.Portfolio.{portfolio_reply}

abbrev pub nine_firsts : List ℕ
nine_firsts = 20545 ∷ 20549 ∷ 9495 ∷ 20549 ∷ 20818 ∷ 20819 ∷ 9496 ∷ 339674 ∷ 339675 ∷ []

abbrev pub nine_seconds : List ℕ
nine_seconds = 20550 ∷ 20550 ∷ 20550 ∷ 20550 ∷ 20822 ∷ 20819 ∷ 9497 ∷ 339675 ∷ 339676 ∷ []

abbrev pub NinePairsAnswered : Type 0
NinePairsAnswered =
    portfolio_reply (is_werktag BdewMaKo) nine_firsts nine_seconds (replicate 9 7) (replicate 32 170) ≡ (
      0,
      1 ∷ 1 ∷ 4294967295 ∷ 1 ∷ 1 ∷ 0 ∷ 1 ∷ 0 ∷ 4294967295 ∷ [],
      0 ∷ 0 ∷ 0 ∷ 0 ∷ 5 ∷ replicate 27 0,
    )

abbrev pub UnequalListsRefused : Type 0
UnequalListsRefused =
    portfolio_reply (is_werktag BdewMaKo) (20545 ∷ []) [] (7 ∷ []) (replicate 32 170) ≡ (
      10,
      7 ∷ [],
      10 ∷ replicate 31 0,
    )

abbrev pub ShortAnswerUntouched : Type 0
ShortAnswerUntouched =
    portfolio_reply (is_werktag BdewMaKo) (20545 ∷ []) [] (7 ∷ []) (replicate 31 170) ≡ (1, 7 ∷ [], replicate 31 170)
