pub mod Asked
pub mod Counting
pub mod Laws
pub mod Leading
pub mod Soundness
pub mod inner
