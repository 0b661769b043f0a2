pub mod FileLines
pub mod RangesMet
pub mod Refusals
