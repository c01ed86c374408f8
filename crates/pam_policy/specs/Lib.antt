pub mod host
pub mod names
pub mod needs
pub mod rules
pub mod search
pub mod text
