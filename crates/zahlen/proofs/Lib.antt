pub mod RoundTrip
pub mod Std
