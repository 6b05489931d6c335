pub mod Replays
pub mod Tries
