pub mod Walked
pub mod Passed
pub mod Kept
