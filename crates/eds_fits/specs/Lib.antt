pub mod Fitting
pub mod Deciding
