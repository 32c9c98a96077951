-- The specification of the summary: what its words are for a set of levels, and what its methods promise.
-- One file.
pub mod Levels
