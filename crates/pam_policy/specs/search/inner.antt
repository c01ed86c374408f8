-- What no public contract cites.
pub mod Choices
pub mod Distances
pub mod Monitor
pub mod Searches
