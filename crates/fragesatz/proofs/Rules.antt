-- What the lengths of a file are.
-- Assumes nothing.
use Prim.Native.Nat.{ℕ, ◌%◌, ◌≤◌}
use mathlib.Core.Bool.{true, ◌&&◌}
use mathlib.Core.Path.{◌≡◌}
use borrow.Author.Tests.{eqb-true, leb-true}
use lib.Dec.{eqb, leb}
use Rattle.zaehlung.proofs.Tests.{and_left, and_right}
use Rattle.fragesatz.specs.File.{is_file}

pub record FileLengths (n m : ℕ) : Type 0 where
  pub multiple : n % 32 ≡ 0
  pub most : n ≤ 65536
  pub same : m ≡ n

pub file_is : (n m : ℕ) → is_file n m ≡ true → FileLengths n m
unfolding is_file
file_is n m h =
    let r = and_right (eqb (n % 32) 0) (leb n 65536 && eqb m n) h in
    record {
      multiple = eqb-true (n % 32) 0 (and_left (eqb (n % 32) 0) (leb n 65536 && eqb m n) h);
      most = leb-true n 65536 (and_left (leb n 65536) (eqb m n) r);
      same = eqb-true m n (and_right (leb n 65536) (eqb m n) r);
    }
