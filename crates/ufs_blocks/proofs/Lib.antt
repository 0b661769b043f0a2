pub mod WayLaws
pub mod DirectLaws
pub mod MappedLaws
pub mod StreamLaws
pub mod PartLaws
pub mod PlacedLaws
pub mod FoundLaws
