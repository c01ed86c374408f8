pub mod KeySteps
pub mod LineSteps
pub mod WordSteps
