pub mod Bodies
pub mod Reads
pub mod Base
pub mod Endpoint
pub mod Refused
pub mod Guess
pub mod Said
pub mod SaidParts
