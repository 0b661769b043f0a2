pub mod OneOf
pub mod TreeFiles
pub mod VolumeRows
mod TimesRows
