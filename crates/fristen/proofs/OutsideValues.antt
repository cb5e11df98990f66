-- The definitions against values from outside: each side is computed. specs/ says which values they are.
use mathlib.Core.Path.{refl}
use Rattle.zaehlung.specs.Blocks.{start, at}
use Rattle.zaehlung.specs.Walk.{day_after, up, add}
use Rattle.zaehlung.specs.Lists.{any}
use Rattle.datum.specs.Calendar.{is_leap, year_len, days_in_month, date_in, date_of}
use Rattle.werktag.specs.Easter.{easter_sunday, easter_index}
use Rattle.werktag.specs.Werktag.{is_fixed, is_buss_und_bettag, is_easter_feast, is_werktag}
use Rattle.berlin.specs.Berlin.{is_before, in_limits, last_sunday, year_at, offset_at, berlin_at}
use Rattle.berlin.specs.Berlin.{berlin_midnight, end_of_day_berlin}
use Rattle.fristen.specs.Fristen.{instant_later, contrl_seconds, in_window, toleranz_in}
use Rattle.fristen.specs.Fristen.{formatumstellung_toleranz, contrl_due_at, contrl_due_at_change, nth_werktag_at}
use Rattle.fristen.specs.Fristen.{end_of_werktag_after, aperak_strom_due_at, is_initial, gas_prozess}
use Rattle.fristen.specs.Fristen.{aperak_gas_due_at}
use Rattle.fristen.specs.FristShape.{same_day_at, due_at_of}
use Rattle.fristen.specs.OutsideValues.{ContrlWindowValues, ContrlValues, ChangeWindowValues, SwitchSundayValues}
use Rattle.fristen.specs.OutsideValues.{ChangeEdgeValues, AperakStromValues, WerktagDueValues, GasProzessValues}
use Rattle.fristen.specs.OutsideValues.{AperakGasValues, AddedHoursValues, ShapeValues}

pub contrl_windows : ContrlWindowValues
unfolding contrl_due_at contrl_seconds instant_later in_limits formatumstellung_toleranz toleranz_in in_window is_before
    berlin_midnight berlin_at offset_at year_at last_sunday date_of date_in at start year_len days_in_month is_leap
contrl_windows = refl

pub contrl_days : ContrlValues
unfolding contrl_due_at contrl_seconds instant_later in_limits formatumstellung_toleranz toleranz_in in_window is_before
    berlin_midnight berlin_at offset_at year_at last_sunday date_of date_in at start year_len days_in_month is_leap
contrl_days = refl

pub change_window : ChangeWindowValues
unfolding contrl_due_at_change day_after contrl_seconds instant_later in_limits in_window is_before berlin_midnight
    berlin_at offset_at year_at last_sunday date_of date_in at start year_len days_in_month is_leap
change_window = refl

pub switch_sundays : SwitchSundayValues
unfolding contrl_due_at_change day_after contrl_seconds instant_later in_limits in_window is_before berlin_midnight
    berlin_at offset_at year_at last_sunday date_of date_in at start year_len days_in_month is_leap
switch_sundays = refl

pub change_edges : ChangeEdgeValues
unfolding contrl_due_at_change day_after contrl_seconds instant_later in_limits in_window is_before berlin_midnight
    berlin_at offset_at year_at last_sunday date_of date_in at start year_len days_in_month is_leap
change_edges = refl

pub strom : AperakStromValues
unfolding aperak_strom_due_at day_after instant_later in_limits berlin_at offset_at year_at last_sunday date_of date_in
    at start year_len days_in_month is_leap
strom = refl

pub werktage : WerktagDueValues
unfolding nth_werktag_at end_of_werktag_after add up is_werktag is_fixed is_buss_und_bettag is_easter_feast any
    easter_index easter_sunday end_of_day_berlin berlin_at offset_at year_at last_sunday date_of date_in at start
    year_len days_in_month is_leap
werktage = refl

pub gas_processes : GasProzessValues
unfolding gas_prozess is_initial any
gas_processes = refl

pub gas : AperakGasValues
unfolding aperak_gas_due_at is_initial nth_werktag_at end_of_werktag_after add up is_werktag is_fixed is_buss_und_bettag
    is_easter_feast any easter_index easter_sunday end_of_day_berlin berlin_at offset_at year_at last_sunday date_of
    date_in at start year_len days_in_month is_leap
gas = refl

pub added_hours : AddedHoursValues
unfolding instant_later in_limits
added_hours = refl

pub shapes : ShapeValues
unfolding due_at_of same_day_at is_before nth_werktag_at add up is_werktag is_fixed is_buss_und_bettag is_easter_feast
    any easter_index easter_sunday end_of_day_berlin berlin_at offset_at year_at last_sunday date_of date_in at start
    year_len days_in_month is_leap
shapes = refl
