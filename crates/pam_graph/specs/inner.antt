-- What no public contract cites.
pub mod Accounts
pub mod Building
pub mod Caches
pub mod Deciding
pub mod Frames
pub mod Parts
pub mod Tallies
pub mod Within
