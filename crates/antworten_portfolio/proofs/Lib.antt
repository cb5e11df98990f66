pub mod Rules
pub mod SingleCalls
