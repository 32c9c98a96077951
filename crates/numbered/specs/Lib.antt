-- The specification: which bytes a numbered sentence is.
pub mod Numbered
