pub mod Bounds
pub mod InodeTests
pub mod KeptLaws
pub mod Sound
pub mod Steps
