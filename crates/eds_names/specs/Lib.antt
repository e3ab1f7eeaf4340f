pub mod Positions
pub mod Standings
pub mod Repeats
pub mod Declarations
pub mod Around
pub mod LookUp
pub mod Surroundings
