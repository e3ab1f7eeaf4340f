pub mod LawFacts
mod EntriesLemmas
pub mod NameSets
pub mod NoBreaks
mod BreakSteps
mod ChainSteps
pub mod KinFacts
pub mod HollowFacts
pub mod LevelFacts
pub mod NestingFacts
mod Unbroken
pub mod EmptyFacts
pub mod FaultFacts
pub mod BrokenFacts
pub mod JudgedFacts
mod LengthSteps
pub mod ListFieldFacts
pub mod TableFacts
pub mod TailFacts
pub mod LengthFacts
pub mod PlainRules
pub mod MeasureFacts
pub mod PartFacts
mod PartNameFacts
pub mod ChainFacts
pub mod Circles
pub mod NumberFacts
pub mod CheckFacts
pub mod TableRules
pub mod ReadRows
pub mod SheetTableFacts
pub mod FamilyFacts
pub mod RowRules
