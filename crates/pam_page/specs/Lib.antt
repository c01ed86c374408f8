pub mod Coming
pub mod KeptSteps
pub mod Laws
pub mod Page
pub mod inner
