-- What no public contract cites.
pub mod MisspelledView
pub mod Opening
pub mod Reading
pub mod Spans
