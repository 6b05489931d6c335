pub mod Messages
pub mod Whole
pub mod Write
