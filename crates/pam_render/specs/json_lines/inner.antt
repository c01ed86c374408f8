-- What no public contract cites.
pub mod Text
pub mod Values
