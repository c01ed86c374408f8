pub mod accepted
pub mod host
pub mod misspelled
pub mod stack
pub mod tables
