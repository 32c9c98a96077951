-- The specification, in the order to read it: which bytes a text and a number are,
-- what becomes of a buffer that they are written to, and what an entry that writes one answers.
pub mod Text
pub mod Decimal
pub mod Buffer
pub mod Filed
