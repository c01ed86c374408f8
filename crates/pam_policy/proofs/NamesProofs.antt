pub mod Files
pub mod Parts
pub mod Rests
pub mod Saying
pub mod Silence
