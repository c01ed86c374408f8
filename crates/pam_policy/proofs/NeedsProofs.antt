pub mod Deciding
pub mod Events
pub mod Fewest
pub mod Laws
pub mod Rules
pub mod Steps
