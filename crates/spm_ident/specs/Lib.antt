pub mod Identity
pub mod Separator
