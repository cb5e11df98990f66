pub mod Table
pub mod Rules
