pub mod EncodedLemmas
pub mod OrderLemmas
pub mod KeyLemmas
pub mod ExtendsLaws
pub mod Classes
pub mod PathParts
pub mod PathLaws
