pub mod Promises
pub mod Mend
pub mod Sorts
pub mod Walks
