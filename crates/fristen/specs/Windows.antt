-- The windows of a Formatumstellung, of which each year has two: from 31 March and 30 September 18:00 Berlin to 2 April
-- and 2 October 00:00 (CONTRL AHB 1.0). And the tolerance of a year, which moves an instant in either to its end.
--   ShowsWindow from to moment   at the moment the Berlin clock shows 18:00 of the day `from` or later, and no time of
--                                the day `to` yet
--   spring_window year moment    whether the moment lies in the window of 1 April; autumn_window, in that of 1 October
--   WindowDays year              the days of both windows: 31 March, 1 and 2 April follow one another, and so do 30
--                                September, 1 and 2 October, which are later and inside the calendar
--   WindowIsShown                a moment lies in the window of two days exactly if the clock shows it
--   OtherDaysAreOutside          a moment is in no window that ends by its Berlin day or begins after it
--   EveryYearHasWindowDays       each year of the calendar has the days of both windows
--   WindowsAreApart              a moment in the window of 1 April is not in that of 1 October
--   ToleranceMovesSpring         the tolerance of a year moves a moment in its window of 1 April to 2 April 00:00
--   ToleranceMovesAutumn         it moves a moment in its window of 1 October to 2 October 00:00
--   ToleranceLeavesOthers        it leaves a moment in neither window
use Rattle.std.specs.Prelude.{ℕ, suc, ◌+◌, ◌<◌, ◌≤◌, ◌≡◌, ◌≢◌, ◌↔◌, ◌⊎◌, Bool, true, false}
use Rattle.zaehlung.specs.Walk.{last}
use Rattle.datum.specs.Calendar.{first_year, last_year}
use Rattle.berlin.specs.declared.Moment.{Moment}
use Rattle.berlin.specs.Berlin.{hours, day_start, seconds_of, berlin_clock, berlin_date, berlin_midnight}
use Rattle.berlin.specs.Inside.{Proper}
use Rattle.fristen.specs.Fristen.{day_on, in_window, toleranz_in}

abbrev pub ShowsWindow : ℕ → ℕ → Moment → Type 0
ShowsWindow from to moment =
    (day_start from + hours 18 ≤ berlin_clock (seconds_of moment))
    × (berlin_clock (seconds_of moment) < day_start to)

abbrev pub spring_window : ℕ → Moment → Bool
spring_window year moment = in_window (day_on year 3 31) (day_on year 4 2) moment

abbrev pub autumn_window : ℕ → Moment → Bool
autumn_window year moment = in_window (day_on year 9 30) (day_on year 10 2) moment

pub record WindowDays (year : ℕ) : Type 0 where
  pub march : day_on year 4 1 ≡ suc (day_on year 3 31)
  pub april : day_on year 4 2 ≡ suc (day_on year 4 1)
  pub between : day_on year 4 2 ≤ day_on year 9 30
  pub september : day_on year 10 1 ≡ suc (day_on year 9 30)
  pub october : day_on year 10 2 ≡ suc (day_on year 10 1)
  pub final : day_on year 10 2 ≤ last

abbrev pub WindowIsShown : Type 0
WindowIsShown =
    (from to : ℕ) → from ≤ last → to ≤ last → (moment : Moment) →
    (in_window from to moment ≡ true) ↔ ShowsWindow from to moment

abbrev pub OtherDaysAreOutside : Type 0
OtherDaysAreOutside =
    (from to : ℕ) → from ≤ last → to ≤ last → (moment : Moment) → Proper moment →
    (to ≤ berlin_date moment) ⊎ (berlin_date moment < from) → in_window from to moment ≡ false

abbrev pub EveryYearHasWindowDays : Type 0
EveryYearHasWindowDays = (year : ℕ) → first_year ≤ year → year ≤ last_year → WindowDays year

abbrev pub WindowsAreApart : Type 0
WindowsAreApart =
    (year : ℕ) → first_year ≤ year → year ≤ last_year → (moment : Moment) →
    spring_window year moment ≡ true → autumn_window year moment ≢ true

abbrev pub ToleranceMovesSpring : Type 0
ToleranceMovesSpring =
    (year : ℕ) → first_year ≤ year → year ≤ last_year → (moment : Moment) →
    spring_window year moment ≡ true → toleranz_in year moment ≡ berlin_midnight (day_on year 4 2)

abbrev pub ToleranceMovesAutumn : Type 0
ToleranceMovesAutumn =
    (year : ℕ) → first_year ≤ year → year ≤ last_year → (moment : Moment) →
    autumn_window year moment ≡ true → toleranz_in year moment ≡ berlin_midnight (day_on year 10 2)

abbrev pub ToleranceLeavesOthers : Type 0
ToleranceLeavesOthers =
    (year : ℕ) → first_year ≤ year → year ≤ last_year → (moment : Moment) →
    spring_window year moment ≡ false → autumn_window year moment ≡ false → toleranz_in year moment ≡ moment
