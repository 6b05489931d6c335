pub mod Texts
pub mod Maps
pub mod Picks
pub mod Sized
pub mod Heads
pub mod Selects
pub mod OpenSelects
