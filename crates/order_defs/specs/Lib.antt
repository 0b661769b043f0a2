pub mod Sorted
pub mod SortedLaws
pub mod DistinctLaws
