pub mod Closing
pub mod Deciding
pub mod ItemsOf
pub mod MatchLaws
pub mod MembersOf
pub mod ReadingLaws
pub mod TextEnds
pub mod Tries
mod Rows
