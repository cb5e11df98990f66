pub mod Rules
pub mod RoundTrip
