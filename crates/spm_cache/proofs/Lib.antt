pub mod Moved
pub mod Turns
pub mod Taken
pub mod Opened
pub mod Went
pub mod Answered
pub mod Meeting
