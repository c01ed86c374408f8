-- What no public contract cites.
pub mod Error
pub mod Kinds
pub mod Paths
pub mod Reading
pub mod Views
