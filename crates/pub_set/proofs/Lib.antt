pub mod AscendingLemmas
pub mod RunLemmas
pub mod StepLemmas
pub mod SetLemmas
pub mod PlaceLemmas
