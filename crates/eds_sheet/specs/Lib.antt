pub mod Files
pub mod Firsts
pub mod Overlaps
pub mod Compiled
pub mod Laws
