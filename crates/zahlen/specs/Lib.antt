pub mod LittleEndian
pub mod TwosComplement
pub mod Places
pub mod ReadBack
