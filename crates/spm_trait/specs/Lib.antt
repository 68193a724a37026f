pub mod TraitName
pub mod Closure
pub mod ClosureFault
pub mod Reached
pub mod Stands
