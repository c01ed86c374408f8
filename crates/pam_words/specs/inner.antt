-- What no public contract cites.
pub mod Building
pub mod Wanted
