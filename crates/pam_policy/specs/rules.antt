pub mod Happening
pub mod Idle
pub mod Judging
pub mod Laws
pub mod Settling
pub mod Site
pub mod inner
