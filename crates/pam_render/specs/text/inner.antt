-- What no public contract cites.
pub mod Canvas
pub mod CompareParts
pub mod Leaves
