-- What no public contract cites.
pub mod Held
pub mod HeldLists
pub mod Likeness
pub mod Naming
pub mod Nodes
pub mod Outcomes
pub mod Trails
pub mod Turn
pub mod Ways
