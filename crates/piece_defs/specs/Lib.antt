pub mod Covering
pub mod Places
pub mod Joined
pub mod JoinedLaws
pub mod OnePieces
pub mod Put
pub mod ThroughLaws
