pub mod Error
pub mod Keys
pub mod Lines
pub mod Views
pub mod Words
pub mod inner
