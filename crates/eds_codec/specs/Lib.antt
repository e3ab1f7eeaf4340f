pub mod Writing
pub mod Reading
pub mod Coding
pub mod Checks
