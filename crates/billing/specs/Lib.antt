-- The specification, in the order to read it: the ticks of a journal, what they cost, and the bill.
pub mod Ticks
pub mod Cents
pub mod Bills
