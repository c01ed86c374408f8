pub mod Cells
pub mod Check
pub mod Excerpt
pub mod Laws
pub mod Witness
pub mod inner
