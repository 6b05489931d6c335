pub mod Put
pub mod Numbers
pub mod Representable
pub mod Promises
