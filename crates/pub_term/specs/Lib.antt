pub mod Node
pub mod NodeLaws
pub mod Term
pub mod TermLaws
pub mod Known
pub mod Resolvent
pub mod Sized
pub mod CauseLaws
