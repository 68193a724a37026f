pub mod Digest
pub mod Summer
