pub mod FristReading
pub mod Frist
pub mod Versions
