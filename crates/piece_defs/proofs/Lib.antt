pub mod ByteLaws
pub mod Joined
pub mod JoinedLaws
pub mod OnePieces
pub mod Put
pub mod ThroughLaws
