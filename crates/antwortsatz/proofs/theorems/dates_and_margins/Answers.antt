use Prim.Native.Nat.{◌/◌, ◌%◌}
use mathlib.Core.List.{[]}
use mathlib.Core.Path.{◌≡◌, refl, ap, ◌∙◌}
use native.Mathlib.Omega.{arith}
use Rattle.zahlen.specs.LittleEndian.{le4, u32_from}
use Rattle.zahlen.specs.TwosComplement.{signed_in}
use Rattle.zahlen.proofs.RoundTrip.{below_append, le_below, u32_bytes, i32_placed}
use Rattle.zahlen.proofs.RoundTrip.Below.{none, more}
use Rattle.antwortsatz.specs.Answers.{date_word, of_kind, judged}
use Rattle.antwortsatz.specs.Bytes.{bytes_of}
use Rattle.antwortsatz.proofs.theorems.dates_and_margins.Goals as goal

pub returns-clause-date : goal.returns-clause-date
returns-clause-date c = λ d y m t.
    let e : date_word d ≡ u32_from (d.year % 256) (d.year / 256 % 256) d.month d.day = omega arith in
    ap le4 e ∙ u32_bytes _ _ _ _ (below_append (le_below 2 d.year) (more m (more t none)))

pub returns-clause-margin : goal.returns-clause-margin
unfolding bytes_of judged
returns-clause-margin c = λ k n d m h. i32_placed [] [] m h.sfits

pub returns-clause-kind_alone : goal.returns-clause-kind_alone
unfolding bytes_of of_kind signed_in
returns-clause-kind_alone c = λ k. refl

pub returns-clause-refusal : goal.returns-clause-refusal
unfolding bytes_of signed_in
returns-clause-refusal c = λ r. refl
