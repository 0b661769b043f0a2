pub mod FirstLine
pub mod Numbered
pub mod Reads
pub mod Settle
