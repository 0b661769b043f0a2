pub mod Kind
pub mod ImageTree
pub mod Footprint
pub mod Refusals
