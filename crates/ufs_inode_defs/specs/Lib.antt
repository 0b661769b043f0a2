pub mod Layout
pub mod Numbers
pub mod Superblock
pub mod Inode
pub mod Stream
pub mod Blocks
pub mod BlockPlace
pub mod StreamLaws
