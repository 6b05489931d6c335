pub mod Output
pub mod Text
pub mod Promises
