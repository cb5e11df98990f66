pub mod Rules
pub mod Places
