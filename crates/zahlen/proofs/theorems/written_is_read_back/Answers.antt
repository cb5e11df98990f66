use Rattle.zahlen.proofs.RoundTrip.{u16_placed, u32_placed, u64_placed, i32_placed, i64_placed}
use Rattle.zahlen.proofs.theorems.written_is_read_back.Goals as goal

pub returns-clause-two_bytes : goal.returns-clause-two_bytes
returns-clause-two_bytes c = u16_placed

pub returns-clause-four_bytes : goal.returns-clause-four_bytes
returns-clause-four_bytes c = u32_placed

pub returns-clause-eight_bytes : goal.returns-clause-eight_bytes
returns-clause-eight_bytes c = u64_placed

pub returns-clause-signed_four_bytes : goal.returns-clause-signed_four_bytes
returns-clause-signed_four_bytes c = λ a b z f. i32_placed a b z f.sfits

pub returns-clause-signed_eight_bytes : goal.returns-clause-signed_eight_bytes
returns-clause-signed_eight_bytes c = λ a b z f. i64_placed a b z f.sfits
