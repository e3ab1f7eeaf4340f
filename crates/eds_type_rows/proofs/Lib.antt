pub mod ListFacts
mod FormFacts
pub mod ListingFacts
pub mod BaseSteps
pub mod NumberSteps
mod RowSteps
pub mod ItemFacts
mod SeatFacts
pub mod SheetPlaces
mod ListPlaces
pub mod PartNames
mod FaceFacts
pub mod SortFacts
pub mod Found
pub mod FixedFacts
pub mod Limits
pub mod SequenceFacts
pub mod PartOrder
