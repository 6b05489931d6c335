pub mod Fronts
pub mod Sizes
