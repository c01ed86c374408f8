pub mod Check
pub mod Hunk
pub mod Laws
pub mod Mended
pub mod Mendings
pub mod inner
