pub mod Rules
pub mod Formatumstellung
pub mod NeverAbsent
pub mod OutsideValues
