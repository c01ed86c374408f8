-- What no public contract cites.
pub mod Lines
pub mod Views
