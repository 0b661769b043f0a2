pub mod Cursor
pub mod Heads
pub mod Kept
pub mod Lent
