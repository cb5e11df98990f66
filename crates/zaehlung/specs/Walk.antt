-- Days 0 to last, stepped and counted day by day, for any test w of a day. A day that passes w is open; for the test of
-- the holiday list that is a Werktag.
--   last          = 330179, the index of the calendar's last day, 31 December 2899; day 0 is 1 January 1996
--   add w d n     = the n-th open day after d; d itself for n = 0; Outside past the last day
--   sub w d n     = the n-th open day before d; d itself for n = 0; Outside before day 0
--   next w d      = the first open day on or after d; Outside if there is none up to the last day
--   W w t n       = the day after the n-th open day on or after t; t itself for n = 0; Outside past the last day:
--                   `day_after_werktage`
--   between w a b = how many days after a, up to and with b, are open; 0 if b is not later
--   count w d     = how many days before d are open
-- and the walks that give them, with k, the number of days that are left to go:
--   up w k d n   = n open days on from d, each day arrived at tested
--   past w k d n = n open days on from d, each day left behind tested
--   first w k d  = the first open day from d on
--   down w d n   = n open days back from d; d days are left to go
--   among w d k  = how many of the k days from d on are open
--   bit b        = 1 for true, 0 for false
-- and what goes on from a step:
--   on_step z s f = f of the day that the step s reached; z where it left the calendar
--   day_after d   = the day after d; Outside past the last day
--   day_before d  = the day before d; Outside before day 0
-- Source: document 01, lib.rs, and 'The span of anchors' for W.
-- Assumes nothing.
use Rattle.std.specs.Prelude.{ℕ, zero, suc, ◌+◌, ◌-◌, Bool, true, false, cond, ltb, Option, Some, None}

-- 'A date lies from 1 January 1996 to 31 December 2899 (330,180 days).'
abbrev pub last : ℕ
last = 330179

abbrev pub on_step : {A : Type 0} → A → Option ℕ → (ℕ → A) → A
on_step z (Some d) f = f d
on_step z None f = z

unfoldable pub day_after : ℕ → Option ℕ
day_after d = cond (ltb d last) (Some (suc d)) None

abbrev pub day_before : ℕ → Option ℕ
day_before zero = None
day_before (suc d) = Some d

-- 'Loops over days end at the calendar's edge': a walk with an open day still to find and no day left is Outside.
unfoldable pub up : (ℕ → Bool) → ℕ → ℕ → ℕ → Option ℕ
up w zero d zero = Some d
up w (suc k) d zero = Some d
up w zero d (suc n) = None
up w (suc k) d (suc n) = elim (w (suc d)) [ true ↦ up w k (suc d) n | false ↦ up w k (suc d) (suc n) ]

unfoldable pub past : (ℕ → Bool) → ℕ → ℕ → ℕ → Option ℕ
past w zero d zero = Some d
past w (suc k) d zero = Some d
past w zero d (suc n) = None
past w (suc k) d (suc n) = elim (w d) [ true ↦ past w k (suc d) n | false ↦ past w k (suc d) (suc n) ]

unfoldable pub first : (ℕ → Bool) → ℕ → ℕ → Option ℕ
first w zero d = elim (w d) [ true ↦ Some d | false ↦ None ]
first w (suc k) d = elim (w d) [ true ↦ Some d | false ↦ first w k (suc d) ]

unfoldable pub down : (ℕ → Bool) → ℕ → ℕ → Option ℕ
down w zero zero = Some zero
down w (suc d) zero = Some (suc d)
down w zero (suc n) = None
down w (suc d) (suc n) = elim (w d) [ true ↦ down w d n | false ↦ down w d (suc n) ]

abbrev pub bit : Bool → ℕ
bit true = 1
bit false = 0

unfoldable pub among : (ℕ → Bool) → ℕ → ℕ → ℕ
among w d zero = 0
among w d (suc k) = bit (w d) + among w (suc d) k

-- '`add_werktage` and `sub_werktage` with 0 give the date unchanged, Werktag or not.'
unfoldable pub add : (ℕ → Bool) → ℕ → ℕ → Option ℕ
add w d n = up w (last - d) d n

unfoldable pub sub : (ℕ → Bool) → ℕ → ℕ → Option ℕ
sub w d n = down w d n

-- `next_werktag` of lib.rs: 'the first Werktag that is on or after `from`'.
unfoldable pub next : (ℕ → Bool) → ℕ → Option ℕ
next w d = first w (last - d) d

-- 'W(n) is t for n = 0, else the day after the n-th Werktag on or after t.'
unfoldable pub W : (ℕ → Bool) → ℕ → ℕ → Option ℕ
W w t n = past w (last - t) t n

-- '`werktage_between` counts Werktage after `from` up to and including `to`; 0 if `to` isn't later.'
unfoldable pub between : (ℕ → Bool) → ℕ → ℕ → ℕ
between w a b = among w (suc a) (b - a)

-- The prefix count, through which all laws go: a step and a difference of two counts are one thing said twice.
unfoldable pub count : (ℕ → Bool) → ℕ → ℕ
count w zero = 0
count w (suc d) = count w d + bit (w d)
