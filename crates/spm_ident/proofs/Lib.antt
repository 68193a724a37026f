pub mod Dots
pub mod Lowercase
pub mod Scan
