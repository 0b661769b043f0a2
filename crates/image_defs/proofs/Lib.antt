pub mod Agreement
pub mod Guard
pub mod Looks
pub mod Results
pub mod ViaLaws
