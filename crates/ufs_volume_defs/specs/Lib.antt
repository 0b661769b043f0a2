pub mod Directory
pub mod Names
pub mod Files
pub mod Volume
