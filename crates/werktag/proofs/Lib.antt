pub mod Place
pub mod Signed
pub mod Easter
pub mod Reasons
pub mod EasterDistance
pub mod Tables
pub mod Rules
