-- The specification, in the order to read it: one turn, and how far a journal has been run.
pub mod Memory
pub mod Taking
pub mod Run
