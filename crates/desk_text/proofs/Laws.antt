pub mod Numbers
pub mod Spans
pub mod Digits
pub mod KeyNames
pub mod Exact
