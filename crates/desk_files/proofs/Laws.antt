pub mod Mend
pub mod Walks
