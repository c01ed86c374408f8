pub mod ComparedLines
pub mod FindingLines
pub mod ItemLines
pub mod PathLists
pub mod PolicyLines
pub mod Printed
pub mod UnusedCounts
