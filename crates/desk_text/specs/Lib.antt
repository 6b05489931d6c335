pub mod Decimal
pub mod Spans
pub mod Lines
pub mod Cents
pub mod Fractions
pub mod Keys
pub mod Promises
