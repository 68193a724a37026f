pub mod CacheLemmas
pub mod Ready
