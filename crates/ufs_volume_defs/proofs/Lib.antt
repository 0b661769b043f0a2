pub mod Footprint
pub mod Images
pub mod Rows
pub mod GuardRow
