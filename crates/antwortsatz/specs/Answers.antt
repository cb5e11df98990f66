-- The answers of the host calls by name: those that fill one field, an instant, a verdict or a span.
--   filled k n s x u v w = the answer of all its fields, in the order of their bytes
--   no_fields            = all zero, as beside a refusal: 'A refusal leaves bytes 1 to 31 zero'
--   date_word d          = the date d as a word: year, month, day from the lowest byte up
--   of_kind k            = kind k alone: 'a deregistration reason [has] the code of its case'
--   counted n t          = count n and the days tested, t: 'a count [fills] the count'; document 02, F-3: 'how many
--                          days it tested, in bytes 24 to 27'
--   dated d              = date d alone: 'A step fills the date'
--   at_instant k s x     = seconds s and nanoseconds x beside kind k: 'a Gas due instant [has] kind 1 for the initial
--                          process, else 0'
--   judged k n d m       = kind k, count n, date d and margin m: 'A verdict has its Werktage in the count and its
--                          earliest date in the date'; what an answer has no date for is zero; document 02, F-6:
--                          'Bytes 28 to 31 of a verdict's answer become a signed number'
--   spanned k d e        = kind k, date d and last date e, zero where there is none: '24 to 27 the span's last date'
-- Source: document 01, 'Host calls and their refusals'; 'Unused fields are zero'.
-- Assumes nothing.
use Rattle.std.specs.Prelude.{ℕ, ◌+◌, ◌*◌, ℤ, pos, Option}
use Rattle.std.specs.Option.{option_map_or}
use Rattle.datum.specs.declared.Date.{Date}
use Rattle.zahlen.specs.TwosComplement.{word_of}
use Rattle.antwortsatz.specs.declared.Answer.{Answer}

abbrev pub filled : ℕ → ℕ → ℤ → ℕ → ℕ → ℕ → ℕ → Answer
filled k n s x u v w =
    record { kind = k; count = n; seconds = s; nanos = x; word20 = u; word24 = v; word28 = w }

abbrev pub no_fields : Answer
no_fields = filled 0 0 (pos 0) 0 0 0 0

abbrev pub date_word : Date → ℕ
date_word d = d.year + 65536 * d.month + 16777216 * d.day

unfoldable pub of_kind : ℕ → Answer
of_kind k = filled k 0 (pos 0) 0 0 0 0

unfoldable pub counted : ℕ → ℕ → Answer
counted n t = filled 0 n (pos 0) 0 0 t 0

unfoldable pub dated : Date → Answer
dated d = filled 0 0 (pos 0) 0 (date_word d) 0 0

unfoldable pub at_instant : ℕ → ℤ → ℕ → Answer
at_instant k s x = filled k 0 s x 0 0 0

unfoldable pub judged : ℕ → ℕ → Option Date → ℤ → Answer
judged k n d m = filled k n (pos 0) 0 (option_map_or date_word d 0) 0 (word_of m)

unfoldable pub spanned : ℕ → Date → Option Date → Answer
spanned k d e = filled k 0 (pos 0) 0 (date_word d) (option_map_or date_word e 0) 0
