pub mod AboveLemmas
pub mod ResolventLemmas
pub mod ProperLemmas
pub mod StepLemmas
pub mod SoundLemmas
pub mod KnownLemmas
pub mod SizedLemmas
