pub mod Keys
pub mod Matches
pub mod Waiting
pub mod Called
pub mod Alike
pub mod PlainStates
