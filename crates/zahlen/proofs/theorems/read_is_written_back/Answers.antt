use Rattle.zahlen.proofs.RoundTrip.{u16_again, u32_again, u64_again, i32_again, i64_again}
use Rattle.zahlen.proofs.theorems.read_is_written_back.Goals as goal

pub returns-clause-two_bytes : goal.returns-clause-two_bytes
returns-clause-two_bytes c = u16_again

pub returns-clause-four_bytes : goal.returns-clause-four_bytes
returns-clause-four_bytes c = u32_again

pub returns-clause-eight_bytes : goal.returns-clause-eight_bytes
returns-clause-eight_bytes c = u64_again

pub returns-clause-signed_four_bytes : goal.returns-clause-signed_four_bytes
returns-clause-signed_four_bytes c = i32_again

pub returns-clause-signed_eight_bytes : goal.returns-clause-signed_eight_bytes
returns-clause-signed_eight_bytes c = i64_again
