-- What no public contract cites.
pub mod Access
pub mod Address
pub mod Error
pub mod Flags
pub mod Groups
pub mod Lines
pub mod Lists
pub mod Login
pub mod Named
pub mod Returns
pub mod Tokens
