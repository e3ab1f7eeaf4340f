pub mod Ranges
pub mod Domains
