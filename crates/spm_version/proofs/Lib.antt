pub mod ReadLemmas
pub mod ReleaseLemmas
pub mod ToolsLemmas
