-- What no public contract cites.
pub mod Counting
pub mod Leading
pub mod Marks
pub mod PastEnd
