-- What no public contract cites.
pub mod KeptSteps
pub mod Lines
pub mod TailTexts
