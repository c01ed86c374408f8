-- What no public contract cites.
pub mod Finding
pub mod Known
