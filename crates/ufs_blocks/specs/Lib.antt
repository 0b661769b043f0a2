pub mod Placed
pub mod UnderWay
pub mod Sections
pub mod Found
