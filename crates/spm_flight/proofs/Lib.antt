pub mod FlownLemmas
pub mod WorkLemmas
