pub mod Writing
pub mod Request
pub mod Parts
pub mod Chunked
pub mod Named
pub mod Response
