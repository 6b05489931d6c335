pub mod Entries
pub mod Scales
pub mod Heads
pub mod ChannelScales
