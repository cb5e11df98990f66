-- The days that a count tests, against values from outside: the day of the year of each date by Python's calendar.
--   TestedOutside   from 2 to 7 April 2026; from 31 December 2024 to 31 December 2028, the most; from 29 February to 1
--                   March 2024; over the whole calendar; to the same day; to the day before
use Rattle.std.specs.Prelude.{◌+◌, ◌≡◌, [], ◌∷◌}
use Rattle.schritte.specs.Tested.{days_tested}

abbrev pub TestedOutside : Type 0
TestedOutside =
    days_tested 11049 11054 ∷ days_tested 10592 12053 ∷ days_tested 10286 10287
    ∷ days_tested 0 330179 ∷ days_tested 11049 11049 ∷ days_tested 11049 11048 ∷ []
    ≡ (92 + 97) ∷ (366 + 366) ∷ (60 + 61)
    ∷ (1 + 365) ∷ 0 ∷ 0 ∷ []
