pub mod BlockSteps
pub mod Mapping
pub mod BlockLaw
pub mod InodeLaws
pub mod SoundSuper
pub mod StreamLaws
pub mod Rows
