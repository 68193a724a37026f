pub mod Kind
pub mod Release
pub mod ReleaseLaws
pub mod Requirement
pub mod ToolsVersion
