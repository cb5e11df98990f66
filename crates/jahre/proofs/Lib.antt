pub mod Days
pub mod Counts
pub mod Rules
