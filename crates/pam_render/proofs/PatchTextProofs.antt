pub mod Among
pub mod Lists
pub mod Steps
