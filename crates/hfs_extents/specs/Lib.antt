pub mod Extents
pub mod Found
pub mod Overflow
pub mod Index
