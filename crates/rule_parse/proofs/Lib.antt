pub mod FirstLines
