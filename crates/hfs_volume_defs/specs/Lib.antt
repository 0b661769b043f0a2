pub mod Catalog
pub mod Folders
pub mod Files
pub mod Volume
pub mod Damage
