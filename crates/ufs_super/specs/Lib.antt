pub mod Looks
pub mod Magic
