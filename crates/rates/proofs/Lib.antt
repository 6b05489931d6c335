-- What the proofs of `rates` cite, on plain values, and the theorems of its promises.
pub mod Values
pub mod Bits
pub mod Split
pub mod Join
pub mod Cents
pub mod Promises
