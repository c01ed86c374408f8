-- What no public contract cites.
pub mod Lines
pub mod ModulePaths
pub mod Told
