pub mod Rules
pub mod NoCall
pub mod Blocks
pub mod Held
