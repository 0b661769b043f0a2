pub mod AnyByte
pub mod ClaimLaws
pub mod LeastLaws
pub mod RangeLaws
