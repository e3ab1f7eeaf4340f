pub mod Ways
pub mod Stacks
pub mod Search
pub mod Reaching
pub mod Laws
