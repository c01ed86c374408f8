pub mod Needs
pub mod Problems
pub mod Report
pub mod Rows
pub mod Tables
pub mod inner
