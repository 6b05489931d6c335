pub mod Records
pub mod Promises
