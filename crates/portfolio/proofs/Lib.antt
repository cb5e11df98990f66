pub mod Pairs
pub mod Rules
pub mod Counted
pub mod RunLaws
