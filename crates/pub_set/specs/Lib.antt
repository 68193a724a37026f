pub mod Ascending
pub mod Choices
pub mod ChoicesLaws
pub mod Runs
