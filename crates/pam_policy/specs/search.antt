pub mod Laws
pub mod Marks
pub mod Queries
pub mod Runs
pub mod Witness
pub mod inner
