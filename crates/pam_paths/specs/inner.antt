-- What no public contract cites.
pub mod CursorText
pub mod Directions
pub mod Followed
pub mod Frames
pub mod Known
pub mod Retrace
pub mod Sharing
pub mod Tail
pub mod Work
