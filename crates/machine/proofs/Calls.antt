-- What a reader asks of single calls.
pub mod Changes
pub mod EachCall
pub mod Ticks
pub mod Marks
pub mod Loops
pub mod Shapes
pub mod Answers
pub mod Rights
pub mod Refusals
