pub mod Types
pub mod Values
pub mod Rows
pub mod Table
pub mod Fits
pub mod Places
