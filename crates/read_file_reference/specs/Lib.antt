pub mod Texts
pub mod Maps
pub mod Picked
pub mod Files
