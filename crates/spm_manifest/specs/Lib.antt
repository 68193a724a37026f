pub mod Traits
pub mod Requirement
pub mod Dependency
pub mod Uses
pub mod Guard
pub mod Counted
pub mod Profile
