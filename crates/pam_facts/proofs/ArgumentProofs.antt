pub mod ConditionSteps
pub mod CutSteps
pub mod LawSteps
pub mod TableSteps
pub mod TextSteps
pub mod ValueSteps
