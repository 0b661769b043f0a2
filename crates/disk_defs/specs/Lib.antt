pub mod Story
pub mod Disk
pub mod Count
pub mod Stream
pub mod Memory
