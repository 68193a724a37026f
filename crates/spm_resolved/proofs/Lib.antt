pub mod PinLemmas
pub mod Tame
pub mod TameParts
pub mod LockTokens
pub mod LockData
pub mod LockReading
pub mod LockLaw
