pub mod Fristen
pub mod FristShape
pub mod ByDate
pub mod NeverAbsent
pub mod Windows
pub mod VersionOne
pub mod ChangeDay
pub mod OutsideValues
