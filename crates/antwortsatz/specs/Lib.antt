pub mod Refusals
pub mod Answers
pub mod Bytes
pub mod Layout
