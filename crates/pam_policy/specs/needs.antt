pub mod Choices
pub mod Events
pub mod Fewest
pub mod Laws
pub mod Suggestions
pub mod inner
