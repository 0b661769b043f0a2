pub mod SameTree
