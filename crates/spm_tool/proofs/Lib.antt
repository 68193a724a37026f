pub mod FaultLemmas
pub mod GainLemmas
pub mod JobLemmas
pub mod PutLemmas
pub mod Refusals
pub mod ReportLemmas
pub mod WordLemmas
