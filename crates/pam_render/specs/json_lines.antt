pub mod Laws
pub mod Line
pub mod Values
pub mod inner
