-- What no public contract cites.
pub mod Views
pub mod Witness
