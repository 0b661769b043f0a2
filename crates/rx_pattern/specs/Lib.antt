pub mod Match
pub mod MatchTest
pub mod Reading
pub mod Tries
