-- Journals with their counts and bills, computed. The theorems: the counts together are the accepted ticks, and these
-- all ticks; no count is above the words; what a charge is, and that nothing else is; what is too long.
pub mod Examples
pub mod Together
pub mod AllTicks
pub mod Few
pub mod Rounding
pub mod LongInput
