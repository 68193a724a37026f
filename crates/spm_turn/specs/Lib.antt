pub mod Log
pub mod Sitting
pub mod Views
pub mod Told
pub mod Rule
pub mod Seated
