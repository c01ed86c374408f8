-- What no public contract cites.
pub mod Written
