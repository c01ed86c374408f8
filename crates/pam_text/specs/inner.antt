-- What no public contract cites.
pub mod Left
pub mod Text
