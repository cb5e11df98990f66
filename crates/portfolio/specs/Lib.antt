pub mod Portfolio
pub mod Runs
pub mod Inside
pub mod Fields
pub mod RunsOfYears
