mod Among
mod Carrying
mod Digits
mod Framing
mod Handing
mod Joining
mod Knowing
mod OnlyOne
mod Packing
pub mod PairLaws
pub mod Pieces
mod Places
mod Printing
mod Scripting
mod Starting
pub mod Steps
mod TextLines
pub mod Utf8
pub mod Alike
pub mod Untied
