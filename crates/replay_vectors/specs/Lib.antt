pub mod Little
pub mod Parts
pub mod Verdicts
