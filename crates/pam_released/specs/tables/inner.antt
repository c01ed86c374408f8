-- What no public contract cites.
pub mod Pieces
pub mod Separators
