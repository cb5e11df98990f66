pub mod Portfolio
pub mod SingleCount
pub mod OutsideValues
