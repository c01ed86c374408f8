pub mod FullTextProofs
pub mod JsonLinesProofs
pub mod JsonTextProofs
pub mod PartsProofs
pub mod PatchTextProofs
pub mod SarifProofs
pub mod SentencesProofs
pub mod TextProofs
