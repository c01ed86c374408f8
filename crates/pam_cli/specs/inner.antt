-- What no public contract cites.
pub mod AccessTables
pub mod DeadLinks
pub mod Reading
pub mod Sources
pub mod UnreadFiles
