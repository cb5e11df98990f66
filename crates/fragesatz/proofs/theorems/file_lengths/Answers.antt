use Prim.Native.Nat.{◌%◌}
use borrow.Author.Tests.{eq-eqb, le-leb}
use Rattle.fragesatz.specs.File.{is_file}
use Rattle.fragesatz.proofs.Rules.{file_is}
use Rattle.fragesatz.proofs.theorems.file_lengths.Goals as goal

pub returns : goal.returns
unfolding is_file
returns c =
    record {
      lengths =
          λ n m. (
            λ h. let f = file_is n m h in (f.multiple, f.most, f.same),
            λ p. rw (eq-eqb (n % 32) 0 p.0, le-leb n 65536 p.1, eq-eqb m n p.2),
          );
    }
