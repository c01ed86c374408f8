pub mod Access
pub mod Findings
pub mod Laws
pub mod Meanings
pub mod Times
pub mod inner
