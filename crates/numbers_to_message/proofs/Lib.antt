pub mod Laws
pub mod Options
pub mod Made
pub mod Loops
pub mod Files
