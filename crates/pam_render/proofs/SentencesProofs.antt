pub mod NamedWords
pub mod NeedsSentences
pub mod PolicySentences
pub mod ShownTexts
