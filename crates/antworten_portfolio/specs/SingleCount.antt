-- A portfolio has for each pair of two dates the count that the single call answers: for any test of a day. A day is a
-- number of days from 1 January 1970 on, and so a date's index and `first_day`.
--   PairHasSingleCount     the count of a pair is the single call's, whose answer has the days tested beside it
--   PlaceHasSingleCount    so it is at any place of a portfolio that is answered
--   CountWithinCalendar    a pair in range has a count of at most 330,180, so 4,294,967,295 is none
use Rattle.std.specs.Prelude.{ℕ, ◌+◌, ◌≤◌, ◌<◌, ◌≡◌, Bool, true, List, length, slice_index, Some, Ok}
use Rattle.datum.specs.declared.Date.{Date}
use Rattle.datum.specs.Calendar.{index_of}
use Rattle.schritte.specs.Tested.{days_tested}
use Rattle.portfolio.specs.Portfolio.{is_portfolio, first_day, in_range, pair_count}
use Rattle.antwortsatz.specs.Answers.{counted}
use Rattle.antworten.specs.Kalender.{werktage_between_answer}
use Rattle.antworten_portfolio.specs.Portfolio.{portfolio_reply}

abbrev pub PairHasSingleCount : Type 0
PairHasSingleCount =
    (is_open : ℕ → Bool) (from to : Date) (from_index to_index : ℕ) →
    index_of from ≡ Some from_index → index_of to ≡ Some to_index →
    werktage_between_answer is_open from to
    ≡ Ok (counted (pair_count is_open (first_day + from_index) (first_day + to_index))
    (days_tested from_index to_index))

abbrev pub PlaceHasSingleCount : Type 0
PlaceHasSingleCount =
    (is_open : ℕ → Bool) (from to : Date) (from_index to_index : ℕ) (froms tos counts answer : List ℕ) (place : ℕ) →
    index_of from ≡ Some from_index → index_of to ≡ Some to_index →
    is_portfolio (length froms) (length tos) (length counts) ≡ true → length answer ≡ 32 → place < length froms →
    slice_index froms place ≡ first_day + from_index → slice_index tos place ≡ first_day + to_index →
    werktage_between_answer is_open from to
    ≡ Ok (counted (slice_index (portfolio_reply is_open froms tos counts answer).1 place)
    (days_tested from_index to_index))

abbrev pub CountWithinCalendar : Type 0
CountWithinCalendar =
    (is_open : ℕ → Bool) (first second : ℕ) → in_range first second ≡ true → pair_count is_open first second ≤ 330180
