pub mod Walk
pub mod Blocks
pub mod Lists
pub mod Steps
pub mod OnOrAfter
pub mod Counts
