pub mod Reading
pub mod Kalender
pub mod Uhrzeit
pub mod Codes
