pub mod Read
pub mod Plain
pub mod Promises
