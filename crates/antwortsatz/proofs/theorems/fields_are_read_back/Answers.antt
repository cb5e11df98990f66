-- Where a field stands does not matter: its bytes are there by computation.
use mathlib.Core.List.{[]}
use mathlib.Core.Path.{refl}
use Rattle.zahlen.proofs.RoundTrip.{u32_placed, i64_placed}
use Rattle.antwortsatz.specs.Bytes.{bytes_of}
use Rattle.antwortsatz.proofs.theorems.fields_are_read_back.Goals as goal

pub returns-clause-kind : goal.returns-clause-kind
unfolding bytes_of
returns-clause-kind c = λ a. refl

pub returns-clause-zero : goal.returns-clause-zero
unfolding bytes_of
returns-clause-zero c = λ a. refl

pub returns-clause-count : goal.returns-clause-count
unfolding bytes_of
returns-clause-count c = λ a h. u32_placed [] [] a.count h

pub returns-clause-seconds : goal.returns-clause-seconds
unfolding bytes_of
returns-clause-seconds c = λ a h. i64_placed [] [] a.seconds h.sfits

pub returns-clause-nanos : goal.returns-clause-nanos
unfolding bytes_of
returns-clause-nanos c = λ a h. u32_placed [] [] a.nanos h

pub returns-clause-word20 : goal.returns-clause-word20
unfolding bytes_of
returns-clause-word20 c = λ a h. u32_placed [] [] a.word20 h

pub returns-clause-word24 : goal.returns-clause-word24
unfolding bytes_of
returns-clause-word24 c = λ a h. u32_placed [] [] a.word24 h

pub returns-clause-word28 : goal.returns-clause-word28
unfolding bytes_of
returns-clause-word28 c = λ a h. u32_placed [] [] a.word28 h
