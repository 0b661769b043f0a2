pub mod WrittenRuns
pub mod Clusters
pub mod DecodedRuns
pub mod Damage
