pub mod Entries
pub mod Werktage
pub mod YearIndex
