pub mod Passing
pub mod Calls
pub mod Work
pub mod Seated
