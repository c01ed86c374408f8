-- What no public contract cites.
pub mod Flat
pub mod Hashing
pub mod PositionTables
pub mod Program
pub mod ReadLevels
pub mod Settled
pub mod Stretches
pub mod Tree
