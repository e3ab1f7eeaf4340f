pub mod Values
pub mod Fitted
