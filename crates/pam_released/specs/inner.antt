-- What no public contract cites.
pub mod Bodies
pub mod NextState
pub mod Numbered
pub mod Numbers
pub mod Pair
