-- When a message is due. m is the instant at which it was received, w any test of a day; for the holiday list's, a day
-- that passes it is a Werktag.
--   contrl_frist contrl_strom_schnell contrl_alocat aperak_strom_utilmd_orders = how many seconds after its receipt a
--                                          message is due
--   noon window_opens                    = 12:00; 18:00, from which on the tolerance of a Formatumstellung holds
--   receipt_day m                        = the Berlin day of the receipt, the Übertragungstag (ÜT)
--   is_saturday d                        = whether the day d is a Saturday
--   instant_later m t                    = t seconds after m; Outside if that is after the calendar's last instant
--   clock_on d c                         = the clock c on the day d; Absent where no clock shows it
--   contrl_seconds d a                   = how long after a receipt on the day d the CONTRL is due, before the
--                                          tolerance
--   day_on y m d                         = the day with that date
--   before_tolerance m a                 = when the CONTRL would be due without a tolerance
--   in_window a b m                      = whether m lies from 18:00 of the day a on and before the midnight that
--                                          begins the day b
--   toleranz a b m                       = the end of that window, if m lies in it; else m itself
--   toleranz_in y m                      = the same with the windows of both Formatumstellungen of the year y
--   formatumstellung_toleranz m          = the same in the year of m
--   tolerated_due t r                    = t, a tolerance, of the instant of r
--   contrl_due_at m a                    = when a CONTRL is due
--   contrl_due_at_change m a d           = the same where the Formatumstellung is on the day d
--   at_least_one n                       = n, and 1 for 0
--   nth_werktag_on w d n c               = the clock c on the n-th Werktag after the day d
--   nth_werktag_at w m n c               = the clock c on the n-th Werktag after the receipt day; next_werktag_at w m
--                                          c, on the first
--   end_of_werktag_after w m n           = the end of the n-th Werktag after the receipt day
--   deadline_at_werktage w m n           = the same
--   add_hours m n                        = n hours after m
--   aperak_strom_due_at m                = when the Strom APERAK on a UTILMD or ORDERS is due
--   aperak_strom_allgemein_due_at w m    = when any other Strom APERAK is due
--   aperak_gas_folgeprozess_due_at w m   = when the Gas APERAK of a follow-up process is due
--   aperak_gas_initialprozess_due_at w m = when that of an initial process is due
--   gas_initialprozess_pids              = the Gas Prüfidentifikatoren that open a process; is_initial pid, whether pid
--                                          is one
--   gas_prozess pid                      = which of the two windows a Prüfidentifikator has
--   aperak_gas_due_at w pid m            = when the APERAK is due
-- Source: CONTRL AHB 1.0 Kap. 2.3.1 and 2.4.1; APERAK AHB 1.1 Kap. 2.3.1 and 2.4.1; GPKE; as document 01, 'lib.rs,
-- messages', and the original's comments quote them; document 02, F-7.
use Rattle.std.specs.Prelude.{ℕ, ◌+◌, Bool, false, not, ◌&&◌, cond, List, [], ◌∷◌, eqb, Result, Ok, Err, ok_or}
use Rattle.zaehlung.specs.Walk.{on_step, day_after, day_before, add}
use Rattle.datum.specs.Calendar.{days_before, date_of, weekday}
use Rattle.zaehlung.specs.Lists.{any}
use Rattle.berlin.specs.declared.Moment.{Moment}
use Rattle.berlin.specs.declared.Clock.{Clock}
use Rattle.berlin.specs.Berlin.{hours, minutes, o_clock, moment_of, seconds_of, is_before, in_limits, berlin_date}
use Rattle.berlin.specs.Berlin.{berlin_at}
use Rattle.berlin.specs.Berlin.{on_resolved, berlin_midnight, end_of_day_berlin}
use Rattle.fristen.specs.declared.GasProzess.{GasProzess}
use Rattle.fristen.specs.declared.GasProzess.TheVariants.{Initialprozess, Folgeprozess}
use Rattle.fristen.specs.declared.ContrlAnlass.{ContrlAnlass}
use Rattle.fristen.specs.declared.ContrlAnlass.TheVariants.{Regelfall, StromUtilmdOderOrders, GasAlocat}
use Rattle.fristen.specs.declared.NoDue.{NoDue}
use Rattle.fristen.specs.declared.NoDue.TheVariants.{Absent, Outside}

-- CONTRL AHB 1.0 Kap. 2.3.1 and 2.4.1, 'unverzüglich, jedoch spätestens 6 Stunden nach Erhalt'
abbrev pub contrl_frist : ℕ
contrl_frist = hours 6

-- Kap. 2.4.1, a UTILMD or ORDERS that is not received on a Saturday: 'spätestens 15 Minuten nach Eingang'
abbrev pub contrl_strom_schnell : ℕ
contrl_strom_schnell = minutes 15

-- Kap. 2.3.1, GABi Gas: 'binnen 45 Minuten nach Erhalt einer ALOCAT-Nachricht'
abbrev pub contrl_alocat : ℕ
contrl_alocat = minutes 45

-- APERAK AHB 1.1 Kap. 2.4.1, a UTILMD or ORDERS: 'spätestens 45 Minuten nach Eingang der Übertragungsdatei'
abbrev pub aperak_strom_utilmd_orders : ℕ
aperak_strom_utilmd_orders = minutes 45

-- 'bis zum nächsten Werktag 12 Uhr', 'bis zum Sonntag, 12 Uhr'
abbrev pub noon : Clock
noon = o_clock 12

-- CONTRL AHB 1.0, 'vom 31.3. 18.00 Uhr bis 2.4. 00:00 Uhr', 'vom 30.9. 18.00 Uhr bis 2.10. 00:00 Uhr'
abbrev pub window_opens : Clock
window_opens = o_clock 18

-- 'taking the UTC day for the Berlin day' is 'tempting and wrong'
abbrev pub receipt_day : Moment → ℕ
receipt_day m = berlin_date m

-- Monday is 0
abbrev pub is_saturday : ℕ → Bool
is_saturday d = eqb (weekday d) 5

-- '8, the due instant's day leaves the calendar'
unfoldable pub instant_later : Moment → ℕ → Result Moment NoDue
instant_later m t = let s = seconds_of m + t in cond (in_limits s) (Ok (moment_of s m.nanos)) (Err Outside)

abbrev pub clock_on : ℕ → Clock → Result Moment NoDue
clock_on d c = ok_or (berlin_at d c) Absent

-- '6 hours; 45 minutes for `GasAlocat`; `StromUtilmdOderOrders` 15 minutes, 6 hours if received on Saturday'
unfoldable pub contrl_seconds : ℕ → ContrlAnlass → ℕ
contrl_seconds d Regelfall = contrl_frist
contrl_seconds d StromUtilmdOderOrders = cond (is_saturday d) contrl_frist contrl_strom_schnell
contrl_seconds d GasAlocat = contrl_alocat

abbrev pub before_tolerance : Moment → ContrlAnlass → Result Moment NoDue
before_tolerance m a = instant_later m (contrl_seconds (receipt_day m) a)

abbrev pub day_on : ℕ → ℕ → ℕ → ℕ
day_on y m d = days_before (record { year = y; month = m; day = d })

-- '18:00:00 Berlin or later and before .. 00:00'; 18:00 is never absent
unfoldable pub in_window : ℕ → ℕ → Moment → Bool
in_window a b m =
    on_resolved false (berlin_at a window_opens) (λ o. not (is_before m o)) && is_before m (berlin_midnight b)

-- '.. becomes that midnight. Due exactly at that midnight stays.'
abbrev pub toleranz : ℕ → ℕ → Moment → Moment
toleranz a b m = cond (in_window a b m) (berlin_midnight b) m

-- 'Due at 31 March or 30 September 18:00:00 Berlin or later and before 2 April or 2 October 00:00 becomes that
-- midnight.' A window lies in one year: that of the instant's Berlin day.
unfoldable pub toleranz_in : ℕ → Moment → Moment
toleranz_in y m = toleranz (day_on y 9 30) (day_on y 10 2) (toleranz (day_on y 3 31) (day_on y 4 2) m)

unfoldable pub formatumstellung_toleranz : Moment → Moment
formatumstellung_toleranz m = toleranz_in (date_of (berlin_date m)).year m

-- 'the tolerance test on the due instant', never on the receipt
abbrev pub tolerated_due : (Moment → Moment) → Result Moment NoDue → Result Moment NoDue
tolerated_due t (Ok m) = Ok (t m)
tolerated_due t (Err e) = Err e

unfoldable pub contrl_due_at : Moment → ContrlAnlass → Result Moment NoDue
contrl_due_at m a = tolerated_due formatumstellung_toleranz (before_tolerance m a)

-- F-7: 'Version two takes the change day from the caller: the window runs from 18:00 of the day before to 00:00 of the
-- day after, and no other window exists in that call'; '8 also where the day before or after the change day leaves the
-- calendar'
unfoldable pub contrl_due_at_change : Moment → ContrlAnlass → ℕ → Result Moment NoDue
contrl_due_at_change m a d =
    on_step (Err Outside) (day_before d)
    (λ v. on_step (Err Outside) (day_after d) (λ n. tolerated_due (toleranz v n) (before_tolerance m a)))

-- '`nth_werktag_at` with 0 equals 1'
abbrev pub at_least_one : ℕ → ℕ
at_least_one n = cond (eqb n 0) 1 n

-- 'spätester ÜZ ist .. Uhr des n. WT nach dem ÜT'
abbrev pub nth_werktag_on : (ℕ → Bool) → ℕ → ℕ → Clock → Result Moment NoDue
nth_werktag_on w d n c = on_step (Err Outside) (add w d n) (λ e. clock_on e c)

unfoldable pub nth_werktag_at : (ℕ → Bool) → Moment → ℕ → Clock → Result Moment NoDue
nth_werktag_at w m n c = nth_werktag_on w (receipt_day m) (at_least_one n) c

abbrev pub next_werktag_at : (ℕ → Bool) → Moment → Clock → Result Moment NoDue
next_werktag_at w m c = nth_werktag_at w m 1 c

-- 'bis zum Ablauf des n. Werktags nach Eingang'
unfoldable pub end_of_werktag_after : (ℕ → Bool) → Moment → ℕ → Result Moment NoDue
end_of_werktag_after w m n = on_step (Err Outside) (add w (receipt_day m) n) (λ d. Ok (end_of_day_berlin d))

-- 'Ablauf des n. WT' and 'spätester ÜT ist der n. WT' are one Frist
abbrev pub deadline_at_werktage : (ℕ → Bool) → Moment → ℕ → Result Moment NoDue
deadline_at_werktage w m n = end_of_werktag_after w m n

abbrev pub add_hours : Moment → ℕ → Result Moment NoDue
add_hours m n = instant_later m (hours n)

-- 'Saturday gives Sunday 12:00'; 'Sundays and holidays get 45 minutes'
unfoldable pub aperak_strom_due_at : Moment → Result Moment NoDue
aperak_strom_due_at m =
    cond (is_saturday (receipt_day m))
    (on_step (Err Outside) (day_after (receipt_day m)) (λ d. clock_on d noon))
    (instant_later m aperak_strom_utilmd_orders)

-- '12:00 of the first Werktag after the receipt day'
abbrev pub aperak_strom_allgemein_due_at : (ℕ → Bool) → Moment → Result Moment NoDue
aperak_strom_allgemein_due_at w m = next_werktag_at w m noon

-- the same, by another section of the APERAK AHB
abbrev pub aperak_gas_folgeprozess_due_at : (ℕ → Bool) → Moment → Result Moment NoDue
aperak_gas_folgeprozess_due_at w m = next_werktag_at w m noon

-- 'end of the third Werktag after the receipt day'
abbrev pub aperak_gas_initialprozess_due_at : (ℕ → Bool) → Moment → Result Moment NoDue
aperak_gas_initialprozess_due_at w m = end_of_werktag_after w m 3

-- 'Gas initial (44001, 44016, 44039, 44042)'
abbrev pub gas_initialprozess_pids : List ℕ
gas_initialprozess_pids = 44001 ∷ 44016 ∷ 44039 ∷ 44042 ∷ []

unfoldable pub is_initial : ℕ → Bool
is_initial pid = any (eqb pid) gas_initialprozess_pids

unfoldable pub gas_prozess : ℕ → GasProzess
gas_prozess pid = cond (is_initial pid) Initialprozess Folgeprozess

unfoldable pub aperak_gas_due_at : (ℕ → Bool) → ℕ → Moment → Result Moment NoDue
aperak_gas_due_at w pid m =
    cond (is_initial pid) (aperak_gas_initialprozess_due_at w m) (aperak_gas_folgeprozess_due_at w m)
