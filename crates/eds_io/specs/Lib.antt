pub mod Counts
pub mod Faults
pub mod Files
pub mod Whole
pub mod InMemory
pub mod Reads
