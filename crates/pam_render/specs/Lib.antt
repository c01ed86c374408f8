pub mod full_text
pub mod json_lines
pub mod json_text
pub mod parts
pub mod patch_text
pub mod sarif
pub mod sentences
pub mod text
