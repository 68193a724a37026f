pub mod FormedLemmas
pub mod CheckedLemmas
pub mod FileLemmas
pub mod SortLemmas
pub mod TextLemmas
