-- What no public contract cites.
pub mod Adding
