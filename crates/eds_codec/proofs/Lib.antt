pub mod Checks
pub mod ManyOctets
pub mod Booleans
pub mod Binaries
pub mod Blocks
pub mod Texts
