-- What no public contract cites.
pub mod Code
pub mod Control
pub mod SetBits
