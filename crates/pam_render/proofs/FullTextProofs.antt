pub mod CellSteps
pub mod Excerpts
pub mod Findings
pub mod LineLaws
pub mod Repeats
pub mod ShownCells
pub mod Witness
