pub mod YearNumbers
pub mod Fields
pub mod CalendarYear
pub mod Year
