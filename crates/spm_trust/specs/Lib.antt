pub mod File
pub mod NewPackage
pub mod Trust
pub mod TrustText
pub mod Adding
