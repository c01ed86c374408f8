pub mod Document
pub mod Location
pub mod Results
pub mod Rules
pub mod inner
