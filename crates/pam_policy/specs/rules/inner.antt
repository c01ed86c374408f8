-- What no public contract cites.
pub mod Aims
pub mod Choosing
pub mod Looking
pub mod Marking
