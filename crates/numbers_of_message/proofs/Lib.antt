pub mod Laws
pub mod ValuesBack
pub mod RowsBack
pub mod RepresentableOnly
pub mod Settled
pub mod Promises
pub mod Mapped
