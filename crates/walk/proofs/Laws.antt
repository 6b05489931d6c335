pub mod Runs
pub mod Frames
pub mod Shape
pub mod Reached
pub mod Index
pub mod Answers
pub mod Listing
