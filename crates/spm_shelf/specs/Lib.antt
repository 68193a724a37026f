pub mod File
pub mod NewPackage
pub mod Shelf
pub mod ShelfText
