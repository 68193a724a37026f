pub mod Run
pub mod Actors
pub mod Links
pub mod Stage
pub mod Calls
