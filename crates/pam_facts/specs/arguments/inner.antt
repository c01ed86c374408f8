-- What no public contract cites.
pub mod Conditions
pub mod Cuts
pub mod Table
