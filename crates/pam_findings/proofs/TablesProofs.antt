pub mod Adding
pub mod Places
pub mod Putting
pub mod Reporting
pub mod Several
