pub mod Reactions
pub mod Moments
pub mod Conditions
pub mod Places
pub mod Laws
