pub mod Resolved
pub mod Reading
pub mod Pin
