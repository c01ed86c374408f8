-- What no public contract cites.
pub mod Checks
pub mod Entry
pub mod Error
pub mod Fact
pub mod Items
pub mod Logic
pub mod Moments
pub mod OnePass
pub mod Pattern
pub mod RuleLines
pub mod Stored
