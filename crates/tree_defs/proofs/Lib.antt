pub mod Footprint
pub mod ImageLaws
pub mod Refusals
pub mod Rows
