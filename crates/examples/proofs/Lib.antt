-- Histories compared with tables, and machines that the claim refuses.
pub mod Histories
pub mod Refuting
pub mod Wrong
pub mod Bites
pub mod Unheard
pub mod Losing
pub mod Withholding
-- Journals and their lines.
pub mod Example
pub mod Incident
pub mod Joiners
