pub mod Filled
pub mod Begun
