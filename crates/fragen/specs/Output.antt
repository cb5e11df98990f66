-- What is written for an input.
--   output_for l = all answers of the questions l, if they are a file; else nothing
use Rattle.std.specs.Prelude.{ℕ, List, [], nat_eq, if◌then◌else◌}
use Rattle.werktag.specs.declared.HolidayCalendar.TheVariants.{BdewMaKo}
use Rattle.werktag.specs.Werktag.{is_werktag}
use Rattle.antworten_frage.specs.Fragen.{questions_reply}

-- the call returns 0 for a file, and else 9; the answers are as long as the questions, and replace what stood in their
-- place
unfoldable pub output_for : List ℕ → List ℕ
output_for l =
    let r = questions_reply (is_werktag BdewMaKo) l l in
    if nat_eq r.0 0 then r.1 else []
