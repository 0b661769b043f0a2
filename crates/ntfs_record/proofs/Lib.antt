pub mod Parts
pub mod Steps
pub mod Filling
pub mod Walks
pub mod Strides
pub mod Mends
