pub mod Bytes
pub mod Loops
pub mod SampleDump
pub mod ExtendedSampleDump
