pub mod Drawing
pub mod Escaped
pub mod Labels
pub mod Languages
pub mod Laws
pub mod picture
