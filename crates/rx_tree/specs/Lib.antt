pub mod PartValue
pub mod TreeValue
pub mod Order
pub mod Path
pub mod PartOrder
pub mod PartPieces
pub mod Within
pub mod NameLimits
