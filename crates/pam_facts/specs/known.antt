pub mod Access
pub mod Answers
pub mod Knowledge
pub mod Laws
pub mod Reads
pub mod Tables
pub mod inner
