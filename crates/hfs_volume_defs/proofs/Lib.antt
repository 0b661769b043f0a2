pub mod Footprint
pub mod VolumeRows
pub mod Results
pub mod FileDamage
pub mod EntryDamage
pub mod FilesDamage
pub mod VolumeDamage
