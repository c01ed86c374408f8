pub mod Bytes
pub mod Lines
pub mod Strings
pub mod Arrays
pub mod Plain
pub mod Kept
pub mod Lists
pub mod Members
