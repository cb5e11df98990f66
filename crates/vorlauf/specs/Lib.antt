pub mod Verdict
pub mod Margin
pub mod Span
pub mod Abmeldung
