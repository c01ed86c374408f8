mod Ends
mod EscapedTexts
pub mod Indices
pub mod Loops
pub mod PictureProofs
mod Quotes
