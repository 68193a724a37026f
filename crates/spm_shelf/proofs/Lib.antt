pub mod Readings
pub mod Distinct
pub mod Ascending
pub mod TextLemmas
pub mod MetLemmas
pub mod WholeMembers
