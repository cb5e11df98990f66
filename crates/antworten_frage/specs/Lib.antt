pub mod Frage
pub mod Fragen
pub mod SingleCalls
pub mod FileAnswers
pub mod OutsideValues
