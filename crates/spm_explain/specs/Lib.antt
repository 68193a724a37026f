pub mod Sentence
pub mod DerivationText
pub mod Told
