pub mod Lists
pub mod Texts
pub mod Packs
pub mod Keys
pub mod Fronts
pub mod Sizes
