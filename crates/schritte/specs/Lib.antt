pub mod Tested
pub mod TestedDays
pub mod OutsideValues
