pub mod Laws
pub mod Counts
pub mod Plain
pub mod Handshake
pub mod Promises
