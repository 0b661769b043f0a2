pub mod Ask
pub mod Results
pub mod Agreement
pub mod Looks
pub mod Through
pub mod Via
pub mod ViaLaws
