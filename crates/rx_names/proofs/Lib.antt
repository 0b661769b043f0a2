pub mod Walks
pub mod ChunkTexts
pub mod UnitTexts
