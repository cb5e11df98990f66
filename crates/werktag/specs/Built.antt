-- The feasts by Easter in two ways: as six built dates, and as six distances from Easter Sunday.
--   same_date d e        = whether two dates are the same
--   days_from d o        = the date o days from the date d
--   built_dates y        = the dates built from Easter Sunday of the year y, one for each offset
--   distance d           = the days from its own year's Easter Sunday to the date d, below 0 before it
--   reason_with d bs     = the reason of the date d, bs being its tests for the feasts by Easter
--   reason_by_built d    = the reason, by comparing the date with each built date
--   reason_by_distance d = the reason, by comparing its distance with each offset
-- Source: document 02, F-4: 'The Rust's test rebuilds the six Easter dates every time.' That test is
-- `is_bdew_mako_holiday` of lib.rs: `let holiday = e_date + Duration::days(offset); if holiday == date`.
use Rattle.std.specs.Prelude.{ℕ, Bool, ◌&&◌, List, ◌∷◌, ◌++◌, map, eqb, ℤ, pos, nat_abs, ◌+ℤ◌, ◌-ℤ◌}
use Rattle.datum.specs.declared.Date.{Date}
use Rattle.datum.specs.Calendar.{days_before, date_of, weekday}
use Rattle.werktag.specs.Easter.{easter_sunday, easter_index}
use Rattle.werktag.specs.Werktag.{eq_z, is_buss_und_bettag, easter_offsets}
use Rattle.werktag.specs.Reason.{place_from, weekend_tests, fixed_tests}

abbrev pub same_date : Date → Date → Bool
same_date d e = eqb d.year e.year && (eqb d.month e.month && eqb d.day e.day)

-- where that is a day of the calendar, as it is from every Easter Sunday by every offset
abbrev pub days_from : Date → ℤ → Date
days_from d o = date_of (nat_abs (pos (days_before d) +ℤ o))

unfoldable pub built_dates : ℕ → List Date
built_dates y = map (days_from (easter_sunday y)) easter_offsets

unfoldable pub distance : Date → ℤ
distance d = pos (days_before d) -ℤ pos (easter_index d.year)

-- the order of document 02, F-2: the weekend, the fixed days, Buß- und Bettag, the feasts
abbrev pub reason_with : Date → List Bool → ℕ
reason_with d bs =
    let i = days_before d in
    place_from 1
    (weekend_tests i
    ++ (fixed_tests d.month d.day ++ (is_buss_und_bettag d.month d.day (weekday i) ∷ bs)))

unfoldable pub reason_by_built : Date → ℕ
reason_by_built d = reason_with d (map (same_date d) (built_dates d.year))

unfoldable pub reason_by_distance : Date → ℕ
reason_by_distance d = reason_with d (map (eq_z (distance d)) easter_offsets)
