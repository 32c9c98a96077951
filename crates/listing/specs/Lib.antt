-- The specification, in the order to read it: which bytes a line is,
-- and what becomes of a buffer that it is written to.
pub mod Line
pub mod Buffer
