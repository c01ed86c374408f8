-- What no public contract cites.
pub mod Codes
pub mod Error
pub mod Events
pub mod Lists
pub mod Policy
pub mod Services
pub mod Words
