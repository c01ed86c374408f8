-- What no public contract cites.
pub mod Accepting
pub mod Answer
pub mod Candidates
pub mod Check
pub mod Compare
pub mod FaultViews
pub mod GraphViews
pub mod Known
pub mod Memory
pub mod Needs
pub mod OutcomeViews
pub mod PageView
pub mod Passwd
pub mod Policy
pub mod Services
pub mod Tasks
