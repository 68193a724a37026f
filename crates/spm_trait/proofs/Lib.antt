pub mod Chars
pub mod Names
pub mod IndexLemmas
pub mod Search
pub mod ClosureLemmas
