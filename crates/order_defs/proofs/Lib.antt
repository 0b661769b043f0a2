pub mod DistinctLaws
pub mod SortedLaws
