-- What no public contract cites.
pub mod Answers
pub mod Classes
pub mod Idle
