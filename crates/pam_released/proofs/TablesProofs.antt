pub mod FindingSteps
pub mod LastLine
pub mod Order
pub mod RowLemmas
pub mod Splitting
pub mod TokenSteps
