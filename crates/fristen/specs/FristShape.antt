-- When an answer is due: the shapes of an answer's Frist. m is the instant at which the message was received, w any
-- test of a day.
--   same_day_at w m c   = the clock c on the receipt day, if that is a Werktag and the clock is still to come; else on
--                         the first Werktag after it
--   same_day m          = the end of the receipt day
--   due_at_of w shape m = when an answer of that shape is due
-- Source: document 01, antwort.rs; GPKE Teil 2, 'Spätester ÜZ ist .. Uhr am ÜT', and the second window that it gives,
-- '.. Uhr des 1. WT nach dem ÜT'.
use Rattle.std.specs.Prelude.{ℕ, Bool, ◌&&◌, cond, Result, Ok, Err}
use Rattle.berlin.specs.declared.Moment.{Moment}
use Rattle.berlin.specs.declared.Clock.{Clock}
use Rattle.berlin.specs.Berlin.{is_before, berlin_at, on_resolved, end_of_day_berlin}
use Rattle.fristen.specs.declared.FristShape.{FristShape}
use Rattle.fristen.specs.declared.FristShape.TheVariants.{WerktagAt, EndOfWerktag, SameDayAt, SameDay}
use Rattle.fristen.specs.Fristen.{receipt_day, next_werktag_at, nth_werktag_at, end_of_werktag_after}
use Rattle.fristen.specs.declared.NoDue.{NoDue}
use Rattle.fristen.specs.declared.NoDue.TheVariants.{Absent}

-- '`SameDayAt` received exactly at the clock time goes to the next Werktag. The Rust resolves the clock on the receipt
-- day even if that is no Werktag, so an absent clock there is refused': refusal 6 before refusal 8.
unfoldable pub same_day_at : (ℕ → Bool) → Moment → Clock → Result Moment NoDue
same_day_at w m c =
    on_resolved (Err Absent) (berlin_at (receipt_day m) c)
    (λ a. cond (w (receipt_day m) && is_before m a) (Ok a) (next_werktag_at w m c))

-- 'Am selben Tag wie ..'
abbrev pub same_day : Moment → Result Moment NoDue
same_day m = Ok (end_of_day_berlin (receipt_day m))

unfoldable pub due_at_of : (ℕ → Bool) → FristShape → Moment → Result Moment NoDue
due_at_of w (WerktagAt n c) m = nth_werktag_at w m n c
due_at_of w (EndOfWerktag n) m = end_of_werktag_after w m n
due_at_of w (SameDayAt c) m = same_day_at w m c
due_at_of w SameDay m = same_day m
