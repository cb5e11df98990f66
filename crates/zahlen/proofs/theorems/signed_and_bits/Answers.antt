use Rattle.zahlen.proofs.RoundTrip.{bits_signed, signed_bits}
use Rattle.zahlen.proofs.theorems.signed_and_bits.Goals as goal

pub returns-clause-bits : goal.returns-clause-bits
returns-clause-bits c = bits_signed

pub returns-clause-signed : goal.returns-clause-signed
returns-clause-signed c = signed_bits
