pub mod Anchors
pub mod Named
pub mod Sharp
pub mod Late
pub mod Margins
