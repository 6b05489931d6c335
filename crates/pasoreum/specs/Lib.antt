pub mod Kinds
pub mod Read
pub mod Walk
pub mod Identity
pub mod Promises
