pub mod Paths
pub mod Sets
pub mod Breaks
pub mod Broken
pub mod ConstrainedRows
pub mod Named
pub mod Lefts
pub mod Laws
