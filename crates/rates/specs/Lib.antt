pub mod Digits
pub mod Rate
pub mod Cents
pub mod Promises
