-- What no public contract cites.
pub mod Answers
pub mod Sets
