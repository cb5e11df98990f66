pub mod Easter
pub mod Werktag
pub mod Reason
pub mod Built
pub mod EasterDay
pub mod FeastDates
pub mod Closed
pub mod OutsideValues
