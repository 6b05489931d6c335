pub mod Heads
pub mod Numbers
pub mod Lists
pub mod Answers
pub mod Puts
