-- What no public contract cites.
pub mod Laned
pub mod Marks
pub mod Noted
pub mod Spaced
