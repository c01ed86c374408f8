pub mod AnswerLines
pub mod PlainTexts
pub mod PolicyJson
