pub mod Walking
pub mod EndlessMarks
