-- The refusals of documents 01 and 02 by name, the same as in the code and in the host.
--   number r = the number of the refusal r
-- Source: document 01, 'Host calls and their refusals': 'Any call: 1, the answer isn't 32 bytes long; 2, a code is
-- unknown'; 'Calendar steps and counts: 3, a given date is no date of the range; 8, a result leaves the calendar';
-- 'Clock on a date: 3; 5, hour over 23, minute or second over 59, nanoseconds over 999,999,999; 6, local time absent';
-- 'Day of an instant: 4, instant outside its limits; 7, not the beginning of a day in that Sparte'. Document 02, F-1:
-- '9, before all others and for the whole call, if the question bytes are no multiple of 32 or exceed 65,536, or the
-- answers differ in length'; F-5: '10, after 1, if the three lists differ in length or have over 4,096 entries'.
-- Assumes nothing.
use Rattle.std.specs.Prelude.{ℕ}
use Rattle.antwortsatz.specs.declared.Refusal.{Refusal}
use Rattle.antwortsatz.specs.declared.Refusal.TheVariants.{AnswerLength, UnknownCode, NoDate, InstantOutside, NoClock}
use Rattle.antwortsatz.specs.declared.Refusal.TheVariants.{LocalTimeAbsent, NoBeginning, LeavesCalendar}
use Rattle.antwortsatz.specs.declared.Refusal.TheVariants.{FileLength, ListLength}

abbrev pub number : Refusal → ℕ
number AnswerLength = 1
number UnknownCode = 2
number NoDate = 3
number InstantOutside = 4
number NoClock = 5
number LocalTimeAbsent = 6
number NoBeginning = 7
number LeavesCalendar = 8
number FileLength = 9
number ListLength = 10
